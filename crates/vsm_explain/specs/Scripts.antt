-- The script that is asked about.
use Rattle.std.specs.Prelude.{◌≡◌, ◌<◌, ◌≤◌, ◌==◌, ℕ, Bool, true, false, List, [], codes, length, if◌then◌else◌}
use Rattle.std.specs.Prelude.{Option, Some, None, IfSome, option_map, ⊤}
use Rattle.std.specs.List.{list_any}
use Rattle.std.specs.Str.{bytes_eq}
use Rattle.clap.specs.Words.{Text}
use Rattle.vsm_explain.specs.declared.questions.Asking.{Asking}
use Rattle.vsm_explain.specs.declared.questions.Question.{Question}
use Rattle.vsm_explain.specs.declared.questions.Question.TheVariants as question
use Rattle.vsm_explain.specs.declared.faults.CommandFault.{CommandFault}
use Rattle.vsm_explain.specs.declared.faults.CommandFault.TheVariants as fault
use Rattle.vsm_explain.specs.declared.scripts.Unread.{Unread}
use Rattle.vsm_explain.specs.declared.scripts.Unread.TheVariants as why

-- ---- its name

-- the path of the script: none if it's standard input, which `-` names too
abbrev pub path_in : Option Text → Option Text
path_in None = None
path_in (Some path) = if bytes_eq path (codes "-") then None else Some path

abbrev pub name_in : Option Text → Text
name_in None = codes "standard input"
name_in (Some path) = path

abbrev pub file_in : Asking → Option Text
file_in asking = option_map (λ s. s.now) asking.file

-- ---- its bytes

abbrev pub is_listing : Question → Bool
is_listing (question.List only) = true
is_listing (question.Check leaks) = true
is_listing _ = false

-- a byte X'00'
abbrev pub has_zero : List ℕ → Bool
has_zero script = list_any (λ byte. byte == 0) script

-- all that a reader had left, if that is known
abbrev pub IsAll : Option (List ℕ) → List ℕ → Type 0
IsAll left script = IfSome left (λ text. script ≡ text)

-- A script is all that a reader had left: at least a byte, and no more than can be explained; and none is X'00', except
-- in a listing.
abbrev pub IsScript : Bool → Option (List ℕ) → List ℕ → Type 0
IsScript listed left script =
    IsAll left script × (0 < length script) × (length script ≤ 268435456)
    × (listed ≡ false → has_zero script ≡ false)

-- Or it isn't one, for this cause. After a fault of reading nothing is known of it.
abbrev pub IsUnread : Bool → Option (List ℕ) → Unread → Type 0
IsUnread listed left (why.Read error) = ⊤
IsUnread listed left why.Empty = IsAll left []
IsUnread listed left why.TooLong = IfSome left (λ text. 268435456 < length text)
IsUnread listed left why.Binary =
    (listed ≡ false) × ((script : List ℕ) × IsAll left script × (has_zero script ≡ true))

-- `opened` says what opening a path gave, and `unread` what an open script has left to be read.
module _ {F : Type 0} (opened : List ℕ → Option F → Type 0) (unread : F → Option (List ℕ)) where
  -- This holds of what a file at this path has left.
  abbrev pub OfFile : (Option (List ℕ) → Type 0) → Text → Type 0
  OfFile P path = (file : F) × opened path (Some file) × P (unread file)

  -- The file isn't a script, or can't be opened.
  abbrev pub IsUnreadFile : Bool → Text → Unread → Type 0
  IsUnreadFile listed path (why.Read error) = ⊤
  IsUnreadFile listed path its = OfFile (λ left. IsUnread listed left its) path

-- `remaining` says what the input has left.
module _ {F I : Type 0} (opened : List ℕ → Option F → Type 0) (unread : F → Option (List ℕ))
    (remaining : I → Option (List ℕ)) (input : I) where
  -- the script at a path, or from the input
  abbrev pub IsScriptOf : Bool → Option Text → List ℕ → Type 0
  IsScriptOf listed None script = IsScript listed (remaining input) script
  IsScriptOf listed (Some path) script = OfFile opened unread (λ left. IsScript listed left script) path

  abbrev pub IsUnreadOf : Bool → Option Text → Unread → Type 0
  IsUnreadOf listed None its = IsUnread listed (remaining input) its
  IsUnreadOf listed (Some path) its = IsUnreadFile opened unread listed path its

  -- No script is there to be explained: none is named and the input is a terminal, or the one that is asked about isn't
  -- one.
  abbrev pub HasNoScript : Bool → Asking → CommandFault → Type 0
  HasNoScript at_terminal asking fault.Terminal = (at_terminal ≡ true) × (file_in asking ≡ None)
  HasNoScript at_terminal asking (fault.Script name its) =
      IsUnreadOf (is_listing asking.question) (path_in (file_in asking)) its
  HasNoScript at_terminal asking _ = ⊥
