-- `joining::walking::trace_back` meets its contract, by the invariant `BackSo`. Assumes nothing.
use mathlib.Core.Path.{subst}
use mathlib.Core.List.{List}
use Prim.Native.Nat.{ℕ, suc, ◌-◌, ◌<◌}
use native.Mathlib.Omega.{arith}
use Rattle.joining.proofs.BackLaws.{leads_back, BackSo, back_begun, back_more, back_done}
use Rattle.joining.proofs.walking.Marks.trace_back.Goals as goal

-- k, as the number after k - 1
one_less : {l : List ℕ} {n i j : ℕ} {strip₀ : List ℕ} {a b : ℕ} (k : ℕ) {strip : List ℕ} → 0 < k → BackSo l n i j strip₀ a b k strip
    → BackSo l n i j strip₀ a b (suc (k - 1)) strip
one_less {l} {n} {i} {j} {strip₀} {a} {b} k {strip} h s = subst (λ (t : ℕ). BackSo l n i j strip₀ a b t strip) (omega arith) s

pub loop-k-init : goal.loop-k-init
loop-k-init c =
    let a = c.args in
    back_begun a.self.cells.now a.self.n a.i a.j a.strip.now

pub step_back-at-requires : goal.step_back-at-requires
step_back-at-requires c =
    let so = c.loop-k.invariant in
    (leads_back c.requires.0 so.in_a so.in_b, omega (arith, so.sum))

pub bounds-strip-k : goal.bounds-strip-k
bounds-strip-k c =
    let so = c.loop-k.invariant in
    omega (arith, so.sum, so.in_a, so.in_b, so.long, c.requires.1)

pub loop-k-preserved : goal.loop-k-preserved
loop-k-preserved c =
    let so = c.loop-k.invariant in
    let k = c.loop-k.k in
    back_more (k - 1) c.requires.1 (one_less k (omega arith) so) c.step_back-at.ensures

pub shape_of-strip : goal.shape_of-strip
shape_of-strip c = c.loop-k.invariant.long

pub returns : goal.returns
returns c = back_done (omega arith) c.loop-k.invariant
