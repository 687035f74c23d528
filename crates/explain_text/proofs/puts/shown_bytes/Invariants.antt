use Rattle.std.proofs.Common.{◌≡◌}
use Rattle.arrayvec.specs.ArrayVec.{array_vec_len}
use Rattle.explain_text.specs.Letters.{shown_to}
use Rattle.explain_text.proofs.puts.shown_bytes.Given as goal

abbrev pub invariant-loop-at : goal.invariant-loop-at
invariant-loop-at l = record {
  text : l.text.items ≡ shown_to l.bytes l.at;
  len : array_vec_len l.text ≡ l.at;
}
