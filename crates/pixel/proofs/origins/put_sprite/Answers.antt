-- `put_sprite` meets its contract.
use Rattle.std.proofs.Common.{arith, lit<}
use Rattle.sprites.specs.Scan.{attribute_address}
use Rattle.sprites.proofs.Laws.Bounds.{attribute-inside}
use Rattle.text.proofs.Laws.Numbers.{length-long}
use Rattle.text.proofs.Laws.Put.{put-put}
use Rattle.pixel.specs.Origins.{sprite, attributes_at, labelled, sprite_text}
use Rattle.pixel.proofs.origins.put_sprite.Goals as goal

pub put_labelled-requires : goal.put_labelled-requires
put_labelled-requires c = (omega (arith, attribute-inside c.args.screen.registers c.args.screen.obeys_masks c.args.n 0 c.requires.0 (lit< tt), c.attribute_address-address.ensures), omega (arith, length-long c.args.n))

pub returns-clause-out_after : goal.returns-clause-out_after
unfolding sprite_text
returns-clause-out_after c = grind (arith, put-put c.args.at (labelled sprite c.args.n) (labelled attributes_at (attribute_address c.args.screen.registers c.args.n 0)) c.args.out.now)
