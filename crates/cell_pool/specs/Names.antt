-- Names and headers as words of elements: three bytes to a word, each as a digit from 1 to 256, or 0 for none. So the
-- words say how long the text is.
use Rattle.std.specs.Prelude.{ℕ, zero, suc, ◌+◌, ◌*◌, ◌/◌, ◌%◌, ◌<◌, Bool, ◌==◌, ◌&&◌, if◌then◌else◌}
use Rattle.std.specs.Prelude.{List, [], ◌∷◌, ◌++◌, Option, Some, None, IfSome, IsUtf8, slice_get}
use Rattle.list_table.specs.Entries.{word}
use Rattle.cell_pool.specs.declared.label.Label.{Label}
use Rattle.vsm_model.specs.declared.limits.Residence.{Residence}
use Rattle.vsm_model.specs.declared.limits.Residence.TheVariants.{Below, Above}

abbrev pub digit : Option ℕ → ℕ
digit None = 0
digit (Some byte) = suc byte

-- the word of the three bytes from this place on
abbrev pub word_at : List ℕ → ℕ → ℕ
word_at bytes i =
    digit (slice_get bytes i) * 66049 + digit (slice_get bytes (i + 1)) * 257 + digit (slice_get bytes (i + 2))

-- that many words from this place on
abbrev pub words_from : ℕ → List ℕ → ℕ → List ℕ
words_from zero bytes i = []
words_from (suc n) bytes i = word_at bytes i ∷ words_from n bytes (i + 3)

-- the byte of a digit, if it has one
abbrev pub byte_of : ℕ → List ℕ
byte_of zero = []
byte_of (suc byte) = byte ∷ []

-- the bytes of a word
unfoldable pub bytes_in : ℕ → List ℕ
bytes_in w = byte_of (w / 66049) ++ byte_of ((w / 257) % 257) ++ byte_of (w % 257)

-- and those of words
abbrev pub unpacked : List ℕ → List ℕ
unpacked [] = []
unpacked (w ∷ ws) = bytes_in w ++ unpacked ws

-- The words of a name; closed, since they are many.
unfoldable pub packed : List ℕ → Label
packed name = record {
  first = words_from 7 name 0;
  second = words_from 7 name 21;
  third = words_from 7 name 42;
}

-- the name that such words spell
abbrev pub spelled : Label → List ℕ
spelled label = unpacked (label.first ++ (label.second ++ label.third))

-- the seven words are the same
abbrev pub same_words : List ℕ → List ℕ → Bool
same_words a b =
    (word a 0 == word b 0) && (word a 1 == word b 1) && (word a 2 == word b 2) && (word a 3 == word b 3)
    && (word a 4 == word b 4) && (word a 5 == word b 5) && (word a 6 == word b 6)

-- all words of the two are the same; closed, since the test is long
unfoldable pub same_label : Label → Label → Bool
same_label a b = same_words a.first b.first && same_words a.second b.second && same_words a.third b.third

-- the side in the first word of a form
abbrev pub location_in : List ℕ → Residence
location_in form = if word form 0 == 0 then Below else Above

-- The header in seven words and the third one of a form, if the second one says that there is one.
abbrev pub header_in : List ℕ → List ℕ → Option (List ℕ)
header_in front form = if word form 1 == 0 then None else Some (unpacked (front ++ word form 2 ∷ []))

-- each is a byte
abbrev pub AreBytes : List ℕ → Type 0
AreBytes [] = Unit {0}
AreBytes (b ∷ bs) = (b < 256) × AreBytes bs

-- The name is a text, and a header has only bytes.
pub record AreTexts (name : List ℕ) (header : Option (List ℕ)) : Type 0 where
  pub text : IsUtf8 name
  pub bytes : AreBytes name
  pub header_bytes : IfSome header AreBytes
