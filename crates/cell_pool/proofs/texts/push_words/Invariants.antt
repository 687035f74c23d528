use Rattle.std.proofs.Common.{◌≡◌, ◌≤◌, ◌+◌, ◌*◌, ◌++◌, drop}
use Rattle.arrayvec.specs.ArrayVec.{array_vec_len}
use Rattle.cell_pool.specs.Names.{unpacked}
use Rattle.cell_pool.proofs.texts.push_words.Given as goal

abbrev pub invariant-loop-k : goal.invariant-loop-k
invariant-loop-k g l = record {
  bytes : l.text.items ++ unpacked (drop l.k l.words) ≡ l.fn.text.items ++ unpacked l.words;
  len : array_vec_len l.text ≤ array_vec_len l.fn.text + 3 * l.k;
}
