-- `register::form_one::decode` meets its contract: LAYERS, CONTENT, and then what is held, each at the front. Assumes nothing.
use native.Mathlib.Omega.{arith}
use mathlib.Core.Path.{◌≡◌, refl}
use mathlib.Core.List.{List}
use Prim.Native.Nat.{ℕ, ◌≤◌}
use mathlib.Core.Bool.{true}
use mir.Syntax.{w8}
use mir.Val.{Fits}
use lib.ListN.{length, get_or, drop}
use Rattle.whole.specs.Filled.{Filled}
use Rattle.whole.specs.Tells.{Tells}
use Rattle.whole.proofs.Telling.{told_not}
use Rattle.stack.specs.declared.Layer.{Layer}
use Rattle.register.specs.declared.judging.Extent.{Extent}
use Rattle.register.specs.Decoding.{two_of, layers_from}
use Rattle.register.specs.Answering.{Reaches, Ended, wrong}
use Rattle.register.proofs.StoredLaws.{ended_stored, not_held}
use Rattle.register.proofs.ReadGates.{layers_wrong, content_wrong}
use Rattle.register.proofs.ReadCases.{Ready, is_two, not_layers, layered, from_end, end_inside, coords_few, decoded}
use Rattle.register.proofs.form_one.decode.Goals as goal

-- the contents are in order
in_order : {k : List ℕ} {n : ℕ} {old es : List Layer} {e : Extent} → n ≡ two_of k → 2 ≤ n → n ≤ 20
    → Filled (layers_from n 0 (drop 2 k)) old es → Reaches k e → length k ≤ 49784
    → ((i : ℕ) → Fits w8 (get_or k i 0)) → Tells (Ended k) true → Ready k n es e
in_order {k} two some most held reaches few bytes ended = record {
  layered = layered k two some most held;
  many = is_two k two;
  reaches = reaches;
  few = few;
  stored = ended_stored (record { each = λ i. omega (arith, bytes i) }) (ended.yes refl);
}

pub returns-then-many-lt2 : goal.returns-then-many-lt2
returns-then-many-lt2 c =
    let k = c.args.contents.now in
    rw c.refuse.ensures (wrong (layers_wrong (not_layers k c.two_at-many.ensures.0 (λ a b. omega arith))))

pub extent_of-extent-requires : goal.extent_of-extent-requires
extent_of-extent-requires c =
    layered c.args.contents.now c.two_at-many.ensures.0 (omega arith) (omega arith) c.put_entries.ensures

pub returns-then-not-content_right : goal.returns-then-not-content_right
returns-then-not-content_right c =
    let held = layered c.args.contents.now c.two_at-many.ensures.0 (omega arith) (omega arith) c.put_entries.ensures in
    rw c.refuse-then-not-content_right.ensures
    (wrong (content_wrong held.layers (not_held (omega (arith, held.layers.two))
    (told_not c.content_right.ensures c.if-not-content_right.true))))

pub put_coords-requires : goal.put_coords-requires
put_coords-requires c =
    let r = in_order c.two_at-many.ensures.0 (omega arith) (omega arith) c.put_entries.ensures c.extent_of-extent.ensures c.requires.0
    c.type_inv.contents c.if-not-content_right.ensures in
    (r.layered, omega (arith, coords_few r, c.requires.2))

pub slice_bounds-result-count : goal.slice_bounds-result-count
slice_bounds-result-count c =
    let r = in_order c.two_at-many.ensures.0 (omega arith) (omega arith) c.put_entries.ensures c.extent_of-extent.ensures c.requires.0
    c.type_inv.contents c.if-not-content_right.ensures in
    omega (arith, from_end r, end_inside r)

pub slice_bounds-result-start : goal.slice_bounds-result-start
slice_bounds-result-start c =
    let r = in_order c.two_at-many.ensures.0 (omega arith) (omega arith) c.put_entries.ensures c.extent_of-extent.ensures c.requires.0
    c.type_inv.contents c.if-not-content_right.ensures in
    omega (arith, from_end r, end_inside r)

pub returns : goal.returns
returns c =
    let r = in_order c.two_at-many.ensures.0 (omega arith) (omega arith) c.put_entries.ensures c.extent_of-extent.ensures c.requires.0
    c.type_inv.contents c.if-not-content_right.ensures in
    decoded r _ refl c.put_coords.ensures refl refl
