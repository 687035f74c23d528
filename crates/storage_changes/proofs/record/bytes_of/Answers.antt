use Rattle.std.proofs.Common.{◌≡◌, [], ◌∷◌, ◌++◌, ◌∙◌}
use borrow.Rule.Slice.PartMut.{put_mid}
use Rattle.vsm_model.specs.Bytes.{fullword}
use Rattle.storage_changes.specs.Records.{word}
use Rattle.storage_changes.proofs.record.bytes_of.Goals as goal

pub returns : goal.returns
returns c =
    let first : c.copy_from_slice.new.self ≡ fullword (word c.args.words 2) = c.copy_from_slice.ensures.after ∙ c.to_be_bytes.ensures in
    let second : c.copy_from_slice-2.new.self ≡ fullword (word c.args.words 3) = c.copy_from_slice-2.ensures.after ∙ c.to_be_bytes-2.ensures in
    let third : c.copy_from_slice-3.new.self ≡ fullword (word c.args.words 4) = c.copy_from_slice-3.ensures.after ∙ c.to_be_bytes-3.ensures in
    let last : c.copy_from_slice-4.new.self ≡ fullword (word c.args.words 5) = c.copy_from_slice-4.ensures.after ∙ c.to_be_bytes-4.ensures in
    λ i. put_mid 12 4 (put_mid 8 4 (put_mid 4 4 (first i ++ 0 ∷ 0 ∷ 0 ∷ 0 ∷ 0 ∷ 0 ∷ 0 ∷ 0 ∷ 0 ∷ 0 ∷ 0 ∷ 0 ∷ []) (second i)) (third i)) (last i)
