-- A block in parts: its contents, and the four bytes behind them, which are right exactly if they are the check, low byte first,
-- and two zeros. Two bytes leave one number. Assumes nothing.
use mathlib.Core.Path.{◌≡◌, sym, ap, ◌∙◌}
use mathlib.Core.Bool.{Bool, not}
use mathlib.Core.List.{List, [], ◌∷◌, ◌++◌}
use Prim.Native.Nat.{ℕ, zero, suc, ◌+◌, ◌*◌, ◌-◌, ◌/◌, ◌%◌}
use native.Mathlib.Omega.{arith}
use lib.Dec.{eqb}
use lib.ListN.{get_or, take, drop}
use lib.Seq.{take-nil}
use lib.Pointwise.{pointwise}
use Rattle.std.proofs.lemmas.Slice.Eq.{bytes_eq-Decides}
use Rattle.whole.specs.Tells.{Tells}
use Rattle.whole.proofs.Telling.{tells_same, tells_not}
use Rattle.blocks.specs.Blocks.{check_of, two, tail_of, block_at, contents_at}
use Rattle.blocks.specs.Faults.{CheckFault}

-- ---- parts of a list

pub drop_take : {A : Type 0} (m n : ℕ) (l : List A) → drop m (take (m + n) l) ≡ take n (drop m l)
drop_take zero n l = let e : 0 + n ≡ n = omega arith in ap (λ (k : ℕ). take k l) e
drop_take {A} (suc m) n [] =
    ap (drop (suc m)) (take-nil {A = A} (suc m + n)) ∙ sym (take-nil {A = A} n)
drop_take {A} (suc m) n (x ∷ l) =
    let e : suc m + n ≡ suc (m + n) = omega arith in
    ap (λ (k : ℕ). drop (suc m) (take k (x ∷ l))) e ∙ drop_take m n l

-- block b, as the code cuts it
pub block_part : (f : List ℕ) (b : ℕ) → take (512 * (b + 1) - 512 * b) (drop (512 * b) f) ≡ block_at f b
unfolding block_at
block_part f b =
    let e : 512 * (b + 1) - 512 * b ≡ 512 = omega arith in ap (λ (n : ℕ). take n (drop (512 * b) f)) e

-- ---- the four bytes

-- bytes that stand for two numbers stand for one
pub two_same : (v w : ℕ) (l m : List ℕ) → two v ++ l ≡ two w ++ m → v ≡ w
unfolding two
two_same v w l m e =
    let low : v % 256 ≡ w % 256 = ap (λ (l : List ℕ). get_or l 0 0) e in
    let high : v / 256 ≡ w / 256 = ap (λ (l : List ℕ). get_or l 1 0) e in
    omega arith

-- ---- a block

-- two lists that are compared byte by byte
pub tells_equal : (l m : List ℕ) {n : List ℕ} → m ≡ n → Tells (l ≡ n) (pointwise eqb l m)
tells_equal l m e =
    let d = bytes_eq-Decides l m in tells_same (λ q. q ∙ e) (λ q. q ∙ sym e) (record { yes = d.0; when = d.1 })

pub fault_tells : (f : List ℕ) (b : ℕ) {c t : List ℕ} {v : ℕ} {r : Bool} → c ≡ contents_at f b → t ≡ drop 508 (block_at f b)
    → v ≡ check_of b c → Tells (t ≡ two v ++ 0 ∷ 0 ∷ []) r → Tells (CheckFault f b) (not r)
unfolding tail_of
fault_tells f b {c} {t} {v} {r} ec et ev s =
    let e : two v ++ 0 ∷ 0 ∷ [] ≡ tail_of b (contents_at f b) =
    ap (λ (n : ℕ). two n ++ 0 ∷ 0 ∷ []) (ev ∙ ap (check_of b) ec) in
    tells_same (λ n. record { wrong = λ q. n (et ∙ q ∙ sym e) }) (λ w q. w.wrong (sym et ∙ q ∙ e)) (tells_not s)
