use Rattle.std.proofs.Common.{◌≡◌, ◌∙◌, ◌++◌, List, ℕ, ◌/◌, ◌%◌, ap, append_assoc}
use Rattle.cell_pool.specs.Names.{byte_of, bytes_in}
use Rattle.cell_pool.proofs.texts.push_word.Goals as goal

joined : (o a b c x y z : List ℕ) → x ≡ o ++ a → y ≡ x ++ b → z ≡ y ++ c → z ≡ o ++ ((a ++ b) ++ c)
joined o a b c x y z hx hy hz = hz ∙ ap (λ (u : List ℕ). u ++ c) (hy ∙ ap (λ (u : List ℕ). u ++ b) hx) ∙ ap (λ (u : List ℕ). u ++ c) (append_assoc o a b) ∙ append_assoc o (a ++ b) c

pub returns-clause-bytes : goal.returns-clause-bytes
unfolding bytes_in
returns-clause-bytes g c = joined c.args.text.now.items (byte_of (c.args.word / 66049)) (byte_of ((c.args.word / 257) % 257)) (byte_of (c.args.word % 257)) c.push_digit.new.text.items c.push_digit-2.new.text.items c.push_digit-3.new.text.items c.push_digit.ensures.bytes c.push_digit-2.ensures.bytes c.push_digit-3.ensures.bytes
