-- Pieces that are put one after the other, and lines of them.
use Rattle.std.proofs.Common.{◌≡◌, ℕ, ◌+◌, ◌<◌, suc, take, get_or, length, arith, List, [], ◌∷◌, ◌++◌, Option, sym, ap, subst, ◌∙◌, append_assoc}
use Rattle.std.specs.Prelude.{codes}
use Rattle.std.proofs.Math.Seq.{take-suc}
use Rattle.std.proofs.lemmas.Grind.{flat_map-append}
use Rattle.std.proofs.lemmas.List.{append-nil}
use Rattle.text_output.specs.Writing.{Puts}
use Rattle.text_output.specs.declared.writing.Gathered.{Gathered}
use Rattle.text_output.proofs.Gathering.{puts_both}
use Rattle.explain_text.specs.declared.pieces.Piece.{Piece}
use Rattle.explain_text.specs.Pieces.{piece_text, pieces_text, line_text}

-- two blanks, the pieces and a line feed are the line
pub line_whole : (old first second new : Option (List ℕ)) (a b c d : Gathered) (ps : List Piece) → Puts old first a b (codes "  ")
    → Puts first second b c (pieces_text ps) → Puts second new c d (codes "\n") → Puts old new a d (line_text ps)
line_whole old first second new a b c d ps h k l =
    puts_both old first new a b d (codes "  ") (pieces_text ps ++ codes "\n") h
    (puts_both first second new b c d (pieces_text ps) (codes "\n") k l)

-- another piece is put
pub next_put : (old now new : Option (List ℕ)) (a b c : Gathered) (ps : List Piece) (i : ℕ) (d : Piece) → i < length ps
    → Puts old now a b (pieces_text (take i ps)) → Puts now new b c (piece_text (get_or ps i d)) → Puts old new a c (pieces_text (take (i + 1) ps))
next_put old now new a b c ps i d within h k =
    let x = get_or ps i d in
    let next : i + 1 ≡ suc i = omega arith in
    subst (Puts old new a c)
    (sym (ap (λ (n : ℕ). pieces_text (take n ps)) next ∙ ap pieces_text (take-suc ps i d within) ∙ flat_map-append piece_text (take i ps) (x ∷ [])
    ∙ ap (λ (y : List ℕ). pieces_text (take i ps) ++ y) (append-nil (piece_text x))))
    (puts_both old now new a b c (pieces_text (take i ps)) (piece_text x) h k)
