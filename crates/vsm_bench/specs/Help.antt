-- What help says after the options, and the version.
use Rattle.std.specs.Prelude.{ℕ, ◌++◌, List, codes}

abbrev pub help_end : List ℕ
help_end =
    codes "\nThe low region is below the 16 MB line, the high region above it. LOC=31 or ANY asks for an area in "
    ++ codes "the high region,\nor in the low one if that has no room. LOC=RES, the default, follows --residence: "
    ++ codes "24 is below the line, 31 either side.\n"
    ++ codes "\nSee vsm-statements(5) for scripts and vsm-messages(7) for output: "
    ++ codes "manual pages made from STATEMENTS.md and MESSAGES.md.\n"
    ++ codes "\nExit status:\n"
    ++ codes "   0  no statement was refused, or help was asked for\n"
    ++ codes "   4  at least one line is FAULT, REFUSED or ABEND\n"
    ++ codes "   8  the script can't be read, the output can't be written, or the script is too long\n"
    ++ codes "  16  a wrong command line, settings out of their limits, or no memory\n"
    ++ codes "\nExample: if the file example.vsm has these lines, each after a blank,\n"
    ++ codes "\n   STORAGE OBTAIN,LENGTH=100,SP=1\n"
    ++ codes "   STORAGE RELEASE,LENGTH=40,ADDR=X'6000',SP=1\n"
    ++ codes "   BACK 1\n"
    ++ codes "\n'vsm --low 128 example.vsm' prints\n"
    ++ codes "\n  0000001 RC=0 A=00006000 L=00000068\n"
    ++ codes "  0000002 RC=0\n"
    ++ codes "  0000003 KEPT=1\n"
    ++ codes "\nnilbozad 0.1.0 (rattle logic dac8208d650f15bf)\n"

abbrev pub version_text : List ℕ
version_text = codes "vsm 0.1.0 (rattle logic dac8208d650f15bf)\n"
