-- The lines of the strips that stand one after the other: one line more is the next part's, and each is one byte longer than its strip.
-- By recursion along the number of strips. Assumes nothing.
use mathlib.Core.Path.{◌≡◌, sym, ap, ◌∙◌, subst}
use mathlib.Core.List.{List, [], ◌∷◌, ◌++◌, append-nil, append_assoc}
use Prim.Native.Nat.{ℕ, zero, suc, ◌+◌, ◌*◌, ◌≤◌, ◌<◌}
use native.Mathlib.Numerals.{add-one}
use native.Mathlib.Omega.{arith}
use native.Mathlib.Nat.{mul-le-mul_right}
use lib.ListN.{length, take, drop, length-append, length-map, length-drop}
use lib.Seq.{length-take-le, drop-drop}
use Rattle.ways.specs.Strip.{Step}
use Rattle.listing.specs.Lines.{strip_line, strip_lines}
use Rattle.strip.specs.Bytes.{step_of, steps_of}
use Rattle.listing.specs.Writing.{Room, Wrote, strips_in}
use Rattle.listing.proofs.LineLaws.{wrote_none, wrote_then, wrote_length}
use Rattle.listing.proofs.LengthLaws.{strip_length}

-- the k-th part
abbrev pub part_of : ℕ → ℕ → List ℕ → List ℕ
part_of steps k l = take steps (drop (k * steps) l)

one_more : (l : List (List Step)) (s : List Step) → strip_lines (l ++ s ∷ []) ≡ strip_lines l ++ strip_line s
unfolding strip_lines
one_more [] s = append-nil (strip_line s)
one_more (r ∷ l) s = ap (λ (x : List ℕ). strip_line r ++ x) (one_more l s) ∙ sym (append_assoc (strip_line r) (strip_lines l) (strip_line s))

in_more : (steps k : ℕ) (l : List ℕ) → strips_in steps (suc k) l ≡ strips_in steps k l ++ steps_of (part_of steps k l) ∷ []
unfolding strips_in
in_more steps zero l = let z : 0 ≡ 0 * steps = omega arith in ap (λ (n : ℕ). steps_of (take steps (drop n l)) ∷ []) z
in_more steps (suc k) l =
    let e : steps + k * steps ≡ suc k * steps = omega arith in
    let d : drop (k * steps) (drop steps l) ≡ drop (suc k * steps) l = drop-drop (k * steps) steps l ∙ ap (λ (n : ℕ). drop n l) e in
    ap (λ (x : List (List Step)). steps_of (take steps l) ∷ x)
    (in_more steps k (drop steps l)
    ∙ ap (λ (x : List ℕ). strips_in steps k (drop steps l) ++ steps_of (take steps x) ∷ []) d)

lines_more : (steps k : ℕ) (l : List ℕ)
    → strip_lines (strips_in steps (suc k) l) ≡ strip_lines (strips_in steps k l) ++ strip_line (steps_of (part_of steps k l))
lines_more steps k l = ap strip_lines (in_more steps k l) ∙ one_more (strips_in steps k l) (steps_of (part_of steps k l))

-- ---- lengths

part_length : (steps k : ℕ) (l : List ℕ) → suc k * steps ≤ length l → length (part_of steps k l) ≡ steps
part_length steps k l h = length-take-le steps (drop (k * steps) l) (omega (arith, length-drop (k * steps) l))

pub lines_length : (steps k : ℕ) (l : List ℕ) → k * steps ≤ length l → length (strip_lines (strips_in steps k l)) ≡ k * (steps + 1)
unfolding strip_lines strips_in
lines_length steps zero l h = omega arith
lines_length steps (suc k) l h =
    ap length (lines_more steps k l)
    ∙ length-append (strip_lines (strips_in steps k l)) (strip_line (steps_of (part_of steps k l)))
    ∙ omega (
      arith,
      lines_length steps k l (omega arith),
      strip_length (steps_of (part_of steps k l)),
      length-map (part_of steps k l) step_of,
      part_length steps k l h,
    )

-- ---- the lines of the first k strips, written

-- and what is left of the strips
pub record LinesPut (out₀ : List ℕ) (at : ℕ) (l : List ℕ) (steps : ℕ) (out : List ℕ) (next : ℕ) (rest : List ℕ) (k : ℕ) : Type 0 where
  pub left : rest ≡ drop (k * steps) l
  pub wrote : Wrote out₀ at (strip_lines (strips_in steps k l)) out next

pub lines_begun : (out : List ℕ) (at : ℕ) (l : List ℕ) (steps : ℕ) → at ≤ length out → LinesPut out at l steps out at l 0
unfolding strip_lines strips_in
lines_begun out at l steps h = record { left = let z : 0 ≡ 0 * steps = omega arith in ap (λ (n : ℕ). drop n l) z; wrote = wrote_none h }

module _ {out₀ : List ℕ} {at : ℕ} {l : List ℕ} {steps : ℕ} {out : List ℕ} {next : ℕ} {rest : List ℕ} {k : ℕ}
    (so : LinesPut out₀ at l steps out next rest k) where
  -- the next strip is there
  pub part_inside : {count : ℕ} → count * steps ≤ length l → k < count → steps ≤ length rest
  part_inside {count} h less =
      let fewer : suc k * steps ≤ count * steps = mul-le-mul_right steps less in
      omega (arith, ap length so.left, length-drop (k * steps) l)

  -- there is room for one line more
  pub line_room : {count : ℕ} → count * steps ≤ length l → Room out₀ at (strip_lines (strips_in steps count l)) → k < count
      → Room out next (strip_line (steps_of (take steps rest)))
  line_room {count} h r less = rw so.left (record {
    fits =
        let fewer : suc k * steps ≤ count * steps = mul-le-mul_right steps less in
        let longer : suc k * (steps + 1) ≤ count * (steps + 1) = mul-le-mul_right (steps + 1) less in
        omega (
          arith,
          r.fits,
          lines_length steps count l h,
          so.wrote.next,
          lines_length steps k l (omega arith),
          wrote_length so.wrote,
          strip_length (steps_of (part_of steps k l)),
          length-map (part_of steps k l) step_of,
          part_length steps k l (omega arith),
        );
  })

  pub line_more : {out' : List ℕ} {next' : ℕ} {behind : List ℕ} → Wrote out next (strip_line (steps_of (take steps rest))) out' next'
      → behind ≡ drop steps rest → LinesPut out₀ at l steps out' next' behind (k + 1)
  line_more {out'} {next'} {behind} w e = rw (add-one k) (record {
    left =
        let far : steps + k * steps ≡ suc k * steps = omega arith in
        e ∙ ap (drop steps) so.left ∙ drop-drop steps (k * steps) l ∙ ap (λ (n : ℕ). drop n l) (omega arith);
    wrote =
        subst (λ (x : List ℕ). Wrote out₀ at x out' next') (sym (lines_more steps k l))
        (wrote_then so.wrote (subst (λ (x : List ℕ). Wrote out next (strip_line (steps_of (take steps x))) out' next') so.left w));
  })

  pub lines_done : {count : ℕ} → k ≡ count → Wrote out₀ at (strip_lines (strips_in steps count l)) out next
  lines_done e = subst (λ (j : ℕ). Wrote out₀ at (strip_lines (strips_in steps j l)) out next) e so.wrote
