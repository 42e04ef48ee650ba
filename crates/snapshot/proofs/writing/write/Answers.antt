-- `write`: what it answers where VRAM is whole and the slice to write to is not.
use Rattle.std.proofs.Common.{◌≡◌, length, rules}
use Rattle.snapshot.proofs.writing.write.Goals as goal

pub returns-in_default-as_mut_array : goal.returns-in_default-as_mut_array
returns-in_default-as_mut_array c =
    let long : length c.args.vram.now ≡ 16384 = c.in-Some.ensures.cases.long in
    let short : length c.args.out.now ≡ 16406 → ⊥ = c.in_default-as_mut_array.ensures.cases in
    record { value = search rules; out_after = search rules }
