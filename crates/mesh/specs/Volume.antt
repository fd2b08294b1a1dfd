-- 01: "Six times the volume of the list is the sum of x·(y'z''-y''z') + y·(z'x''-z''x') + z·(x'y''-x''y') over its triangles."
-- X, Y and Z give the coordinates of a vertex number.
use Rattle.std.specs.Prelude.{List, [], ◌∷◌, ℕ, suc, ℤ, pos, ◌+ℤ◌, ◌-ℤ◌, ◌*ℤ◌}
use Rattle.whole.specs.Sum.{sum}
use Rattle.ways.specs.Value.{Worths}
use Rattle.mesh.specs.Triangles.{Tri}

unfoldable pub six : (ℕ → ℤ) → (ℕ → ℤ) → (ℕ → ℤ) → Tri → ℤ
six X Y Z t =
    X t.u *ℤ (Y t.v *ℤ Z t.w -ℤ Y t.w *ℤ Z t.v)
    +ℤ Y t.u *ℤ (Z t.v *ℤ X t.w -ℤ Z t.w *ℤ X t.v)
    +ℤ Z t.u *ℤ (X t.v *ℤ Y t.w -ℤ X t.w *ℤ Y t.v)

unfoldable pub six_all : (ℕ → ℤ) → (ℕ → ℤ) → (ℕ → ℤ) → List Tri → ℤ
six_all X Y Z [] = pos 0
six_all X Y Z (t ∷ ts) = six X Y Z t +ℤ six_all X Y Z ts

-- twice the area of the trace p with m points
unfoldable pub area_on : (ℕ → ℤ) → (ℕ → ℤ) → (ℕ → ℕ) → ℕ → ℤ
area_on X Y p m = sum m (λ k. X (p k) *ℤ Y (p (suc k)) -ℤ X (p (suc k)) *ℤ Y (p k))

-- the worths of the steps of a strip between the traces p and q, as 01 gives them
abbrev pub worths_on : (ℕ → ℤ) → (ℕ → ℤ) → (ℕ → ℕ) → (ℕ → ℕ) → Worths
worths_on X Y p q = record {
  worth_a = λ i j. X (q j) *ℤ (Y (p (suc i)) -ℤ Y (p i)) -ℤ Y (q j) *ℤ (X (p (suc i)) -ℤ X (p i));
  worth_b = λ i j. X (p i) *ℤ (Y (q (suc j)) -ℤ Y (q j)) -ℤ Y (p i) *ℤ (X (q (suc j)) -ℤ X (q j));
}
