-- Demand 2: (12) gives the greatest value of a strip, and the strip that (13) traces has it.
--
-- The idea: `Tight` bounds the value of every strip by the index of its last pair, and says which strips attain it: those all
-- of whose steps pass. The traced one does. Assumes nothing.
use mathlib.Core.Path.{◌≡◌, refl, sym, ◌∙◌}
use mathlib.Core.List.{List, [], ◌∷◌, ◌++◌}
use Prim.Native.Nat.{ℕ, suc, ◌+◌}
use native.Mathlib.Nat.{add-zero, zero-add}
use native.Mathlib.Omega.{arith}
use lib.ListN.{length}
use lib.IntN.{pos, ◌+ℤ◌, +ℤ_assoc, +ℤ_idl, +ℤ_idr}
use lib.Signed.{◌≤ℤ◌}
use Rattle.whole.proofs.Order.{≤ℤ-trans, ≤ℤ-antisym, ≡→≤ℤ}
use Rattle.ways.specs.Strip.{Step, A, B, steps_a, steps_b, Strip}
use Rattle.ways.specs.Value.{Worths, value, value_from}
use Rattle.ways.specs.Best.{Best}
use Rattle.ways.specs.Keppel.{top, traced}
use Rattle.ways.proofs.Way.{steps_length, strip_way, way_strip}
use Rattle.ways.proofs.Tight.{Tight, Reaches, reaches, trace_tight}

-- ---- lengths, and the value of parts

pub strip_length : {m n : ℕ} {s : List Step} → Strip m n s → length s ≡ m + n
strip_length {s = s} r = omega (arith, steps_length s)

pub value_append : (w : Worths) (i j : ℕ) (s t : List Step)
    → value_from w i j (s ++ t) ≡ value_from w i j s +ℤ value_from w (i + steps_a s) (j + steps_b s) t
unfolding value_from steps_a steps_b
value_append w i j [] t = rw (add-zero i, add-zero j, +ℤ_idl)
value_append w i j (A ∷ s) t =
    let p : i + suc (steps_a s) ≡ suc i + steps_a s = omega arith in
    rw (p, value_append w (suc i) j s t, +ℤ_assoc)
value_append w i j (B ∷ s) t =
    let p : j + suc (steps_b s) ≡ suc j + steps_b s = omega arith in
    rw (p, value_append w i (suc j) s t, +ℤ_assoc)

pub value_snoc_a : (w : Worths) (s : List Step) → value w (s ++ A ∷ []) ≡ value w s +ℤ w.worth_a (steps_a s) (steps_b s)
unfolding value_from
value_snoc_a w s = rw (value_append w 0 0 s (A ∷ []), zero-add (steps_a s), zero-add (steps_b s), +ℤ_idr)

pub value_snoc_b : (w : Worths) (s : List Step) → value w (s ++ B ∷ []) ≡ value w s +ℤ w.worth_b (steps_a s) (steps_b s)
unfolding value_from
value_snoc_b w s = rw (value_append w 0 0 s (B ∷ []), zero-add (steps_a s), zero-add (steps_b s), +ℤ_idr)

-- ---- greatest

-- from (0,0) on
reaches_top : (w : Worths) {m n : ℕ} {s : List Step} → Strip m n s → Reaches (Tight w 0 0 m n s) (pos 0) (value w s) (top w m n)
unfolding top
reaches_top w r = reaches w (strip_way r)

pub greatest : (w : Worths) {m n : ℕ} {s : List Step} → Strip m n s → value w s ≤ℤ top w m n
greatest w {s = s} r = rw +ℤ_idl at (reaches_top w r).most

pub tight_value : (w : Worths) {m n : ℕ} {s : List Step} → Tight w 0 0 m n s → value w s ≡ top w m n
tight_value w {s = s} v = sym (+ℤ_idl (value w s)) ∙ (reaches_top w (way_strip v)).attains v

pub value_tight : (w : Worths) {m n : ℕ} {s : List Step} → Strip m n s → value w s ≡ top w m n → Tight w 0 0 m n s
value_tight w {s = s} r e = (reaches_top w r).only (+ℤ_idl (value w s) ∙ e)

pub attained : (w : Worths) (m n : ℕ) → Strip m n (traced w m n) × (value w (traced w m n) ≡ top w m n)
attained w m n = let v = trace_tight w (m + n) m n refl in (way_strip v, tight_value w v)

pub value_best : (w : Worths) {m n : ℕ} {s : List Step} → Strip m n s → value w s ≡ top w m n → Best (Strip m n) (value w) s
value_best w r e = record { is = r; greatest = λ t k. ≤ℤ-trans (greatest w k) (≡→≤ℤ (sym e)) }

pub best_value : (w : Worths) {m n : ℕ} {s : List Step} → Best (Strip m n) (value w) s → value w s ≡ top w m n
best_value w {m} {n} b =
    let a = attained w m n in
    ≤ℤ-antisym (greatest w b.is) (≤ℤ-trans (≡→≤ℤ (sym a.1)) (b.greatest (traced w m n) a.0))

-- ---- best strips are the tight ones

pub best_tight : (w : Worths) {m n : ℕ} {s : List Step} → Best (Strip m n) (value w) s → Tight w 0 0 m n s
best_tight w b = value_tight w b.is (best_value w b)

pub tight_best : (w : Worths) {m n : ℕ} {s : List Step} → Tight w 0 0 m n s → Best (Strip m n) (value w) s
tight_best w v = value_best w (way_strip v) (tight_value w v)
