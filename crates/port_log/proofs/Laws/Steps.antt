-- A run one record at a time.
use Prim.Native.Nat.{ℕ, ◌+◌, ◌*◌, ◌≤◌, ◌<◌}
use native.Mathlib.Omega.{arith}
use mathlib.Core.Path.{◌≡◌, refl, sym, ap, ◌∙◌}
use mathlib.Core.Bool.{Bool, true, false, cond, not, ◌&&◌}
use mathlib.Core.List.{List, ◌∷◌}
use lib.Dec.{eqb}
use lib.ListN.{length, get_or, drop, length-drop}
use Rattle.chip.specs.Calls.{data_write, data_write_vram, data_write_map}
use Rattle.chip.specs.Refusals.{value_of}
use Rattle.chip.specs.declared.state.Chip.{Chip}
use Rattle.chip.specs.declared.refusal.Answer.{Answer}
use Rattle.port_log.specs.Records.{operation_of, is_read, records_of, record_at}
use Rattle.port_log.specs.Single.{Target, target, answer_by, vram_by, map_by, line_by, answer_to, after}
use Rattle.port_log.specs.Run.{differs, End, run_from}
use Rattle.port_log.specs.Rest.{run_rest, EndsAlike}
use Rattle.port_log.specs.declared.records.Operation.{Operation}
use Rattle.port_log.specs.declared.records.Operation.TheVariants.{DataWrite}
use Rattle.port_log.specs.declared.records.Record.{Record}
use Rattle.port_log.proofs.Laws.Records.{records-next, records-none}

-- past the last record
pub rest_over : (l : List ℕ) (i : ℕ) (t : Target) → length l ≤ 2 * i + 1 → run_rest l i t ≡ record { target = t; done = i; place = i; found = 0 }
unfolding run_from
rest_over l i t h = ap (λ (rs : List Record). run_from i rs t) (records-none (drop (2 * i) l) (rw length-drop (omega arith)))

-- The call of record i, with what it answers and leaves.
module _ (l : List ℕ) (i : ℕ) (within : 2 * i + 1 < length l) (t : Target) {r : Record} {op : Operation} {a : Answer} {vram map line : List ℕ} {x : ℕ} {b : Bool} (is : r ≡ record_at l i) (named : op ≡ operation_of r.operation) (answer : a ≡ answer_by op r.value t) (new-vram : vram ≡ vram_by op r.value t) (new-map : map ≡ map_by op r.value t) (new_line : line ≡ line_by op r.value t) (read : x ≡ value_of a.result) (test : b ≡ differs r x) where
  to : answer_to r t ≡ a
  to = sym (answer ∙ ap (λ (o : Operation). answer_by o r.value t) named)

  left : after r t ≡ target a.chip vram map line
  left =
      ap (λ (o : Operation). target (answer_by o r.value t).chip (vram_by o r.value t) (map_by o r.value t) (line_by o r.value t)) (sym named)
      ∙ (λ k. target (sym answer k).chip (sym new-vram k) (sym new-map k) (sym new_line k))

  chosen : (y z : End) → cond (differs r (value_of (answer_to r t).result)) y z ≡ cond b y z
  chosen y z = ap (λ (d : Bool). cond d y z) (ap (λ (q : Answer). differs r (value_of q.result)) to ∙ sym (test ∙ ap (differs r) read))

  this : run_rest l i t ≡ run_from i (r ∷ records_of (drop (2 * (i + 1)) l)) t
  this = ap (λ (rs : List Record). run_from i rs t) (records-next l i within ∙ ap (λ (q : Record). q ∷ records_of (drop (2 * (i + 1)) l)) (sym is))

  one : run_rest l i t ≡ cond b (record { target = after r t; done = i + 1; place = i; found = value_of (answer_to r t).result }) (run_rest l (i + 1) (after r t))
  unfolding run_from
  one = this ∙ chosen _ _

  -- the read that differs ends the run
  pub rest-differs : b ≡ true → run_rest l i t ≡ record { target = target a.chip vram map line; done = i + 1; place = i; found = x }
  rest-differs e =
      one
      ∙ ap (λ (d : Bool). cond d (record { target = after r t; done = i + 1; place = i; found = value_of (answer_to r t).result }) (run_rest l (i + 1) (after r t))) e
      ∙ (λ k. record { target = left k; done = i + 1; place = i; found = (ap (λ (q : Answer). value_of q.result) to ∙ sym read) k })

  -- and any other call is followed by the next
  pub rest-goes-on : b ≡ false → run_rest l i t ≡ run_rest l (i + 1) (target a.chip vram map line)
  rest-goes-on e =
      one
      ∙ ap (λ (d : Bool). cond d (record { target = after r t; done = i + 1; place = i; found = value_of (answer_to r t).result }) (run_rest l (i + 1) (after r t))) e
      ∙ ap (run_rest l (i + 1)) left

-- A data write is followed by the next record, whatever the slice for lines holds.
pub data-write-goes-on : (l : List ℕ) (i : ℕ) → 2 * i + 1 < length l → get_or l (2 * i) 0 ≡ 0 → (c : Chip) (vram map : List ℕ) {r : Record} {a : Answer} {vram' map' : List ℕ}
    → r ≡ record_at l i → a ≡ data_write c vram map r.value → vram' ≡ data_write_vram c vram map r.value → map' ≡ data_write_map c vram map
    → EndsAlike l i c vram map (i + 1) a.chip vram' map'
unfolding operation_of answer_by vram_by map_by line_by
data-write-goes-on l i within zero c vram map {r} {a} is answer new-vram new-map line =
    let named : DataWrite ≡ operation_of r.operation = ap operation_of (sym (ap (λ (q : Record). q.operation) is ∙ zero)) in
    let test : false ≡ differs r (value_of a.result) = ap (λ (op : Operation). is_read op && not (eqb (value_of a.result) r.value)) named in
    rest-goes-on l i within (target c vram map line) is named answer new-vram new-map refl refl test refl
