-- `put_colour` meets its contract.
use Rattle.std.proofs.Common.{ℕ, List, [], ◌∷◌, ◌++◌, arith}
use Rattle.text.specs.Numbers.{decimal}
use Rattle.text.proofs.Laws.Numbers.{length-decimal}
use Rattle.text.proofs.Laws.Put.{put-put}
use Rattle.pixel.specs.Names.{name_of}
use Rattle.pixel.specs.Output.{colour_text}
use Rattle.pixel.proofs.output.put_colour.Goals as goal

pub returns-clause-out_after : goal.returns-clause-out_after
unfolding colour_text
returns-clause-out_after c =
    let n : List ℕ = name_of c.args.colour ++ (10 ∷ []) in
    grind (arith, (length-decimal c.args.colour).0, put-put c.put-b.result (name_of c.args.colour) (10 ∷ []) c.put-b.new.to, put-put c.put_decimal-a.result (32 ∷ []) n c.put_decimal-a.new.out, put-put 0 (decimal c.args.colour) (32 ∷ n) c.args.out.now)
