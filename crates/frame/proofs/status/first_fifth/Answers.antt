-- `first_fifth`: what the chain finds is the first fifth sprite.
use Prim.Native.Nat.{ℕ, ◌%◌}
use mathlib.Core.Path.{◌≡◌, refl, ap, ◌∙◌}
use mathlib.Core.Bool.{Bool, true, false, cond}
use mathlib.Core.List.{List, [], ◌∷◌}
use lib.Dec.{ltb}
use Rattle.std.proofs.Common.{rules, tests, map, find, Option, Some, None, option_map}
use Rattle.std.proofs.lemmas.Iterator.{YieldsList-from_slice, YieldsList-from_map}
use Rattle.std.proofs.lemmas.Iterator.Search.{find_from_yields_List}
use Rattle.std.specs.Option.{unwrap_or}
use Rattle.frame.specs.Status.{has_fifth, first_fifth}
use Rattle.frame.proofs.status.first_fifth.Goals as goal

abbrev found : List ℕ → Option ℕ
found l = find (λ n. ltb n 32) (map (λ n. n % 64) l)

first-found : (l : List ℕ) → unwrap_or (found l) 32 ≡ first_fifth l
unfolding first_fifth
first-found [] = refl
first-found (n ∷ l) = by (has_fifth n) (first-found l)
  where
    by : (t : Bool) → unwrap_or (found l) 32 ≡ first_fifth l → unwrap_or (cond t (Some (n % 64)) (found l)) 32 ≡ cond t (n % 64) (first_fifth l)
    by true rest = refl
    by false rest = rest

as_found : (o : Option ℕ) → unwrap_or o 32 ≡ unwrap_or (option_map (λ n. n) o) 32
as_found None = refl
as_found (Some n) = refl

pub returns : goal.returns
returns c =
    let chain : option_map (λ n. n) c.find.result ≡ found c.args.notes.now = find_from_yields_List (λ n. ltb n 32) _ _ c.find.result c.find.ensures.ran (YieldsList-from_map _ (λ n. n % 64) (YieldsList-from_slice c.args.notes.now cc) c.map.ensures.closure (λ x r q k. search (rules, tests))) (λ x b q k. search (rules, tests)) in
    c.unwrap_or.ensures ∙ as_found c.find.result ∙ ap (λ (o : Option ℕ). unwrap_or o 32) chain ∙ first-found c.args.notes.now
