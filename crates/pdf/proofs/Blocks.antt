-- Each block stands at its offset.
use Rattle.std.proofs.Common.{true, false, [], ◌∷◌, ◌++◌, length, refl, ⊎_elim, append_assoc, length-append, ◌≡◌}
use Rattle.std.proofs.lemmas.List.{drop_at}
use Rattle.std.proofs.lemmas.Bool.{cases_Bool}
use Rattle.std.specs.Prelude.{◌==◌}
use Rattle.pdf.specs.Blocks.{whole, offset_of, bytes_of}
use Rattle.pdf.specs.Laws.{BlocksStandAtTheirOffsets}

pub blocks_stand_at_their_offsets : BlocksStandAtTheirOffsets
unfolding bytes_of whole offset_of
blocks_stand_at_their_offsets head [] rest n x h = cc
blocks_stand_at_their_offsets head (b ∷ bs) rest n x h =
    ⊎_elim
    (λ (e : (b.number == n) ≡ true).
    let same : b.bytes ≡ x = cc in
    (whole bs ++ rest, rw (e, drop_at head ((b.bytes ++ whole bs) ++ rest) (length head) refl, append_assoc, same)))
    (λ (e : (b.number == n) ≡ false).
    let r = blocks_stand_at_their_offsets (head ++ b.bytes) bs rest n x (rw e at h) in
    (r.0, rw (e, ← length-append head b.bytes, append_assoc b.bytes (whole bs) rest, ← append_assoc head b.bytes (whole bs ++ rest)) r.1))
    (cases_Bool (b.number == n))
