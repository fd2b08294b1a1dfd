-- Lines one after the other: copying a line behind itself, and what a run of lines is. Assumes nothing.
use mathlib.Core.Path.{◌≡◌, sym, ap, ap₂, ◌∙◌}
use mathlib.Core.List.{List, ◌∷◌, ◌++◌, append_assoc}
use mathlib.Core.Bool.{true}
use Prim.Native.Nat.{ℕ, suc, pred, ◌+◌, ◌-◌, ◌≤◌, ◌<◌}
use native.Mathlib.Numerals.{add-one}
use native.Mathlib.Omega.{arith}
use lib.ListN.{length, get_or, take, drop, set, get_or-append}
use lib.Seq.{paste, paste-suc, get_or-take, length-take-le, take_at, drop_at}
use Rattle.ways.specs.Strip.{B, steps_a, steps_b}
use Rattle.ways.specs.Keppel.{trace}
use Rattle.ways.proofs.Greatest.{strip_length}
use Rattle.strip.specs.Bytes.{bytes, IsStrip}
use Rattle.joining.specs.Walking.{says_a, Turned, turned, Added, added}
use Rattle.joining.proofs.NextLaws.{IsTurn, TurnInside, turned_is}

-- what stands before the place of a copy is as it was
paste_front : (d : List ℕ) (at k j : ℕ) → k < at → at ≤ length d → get_or (paste d at d j) k 0 ≡ get_or d k 0
paste_front d at k j h l =
    ap (λ (r : List ℕ). get_or r k 0) (append_assoc (take at d) (take j d) (drop (at + j) d))
    ∙ get_or-append (take at d) (take j d ++ drop (at + j) d) 0 k (omega (arith, length-take-le at d l))
    ∙ get_or-take at d k 0 h

pub double_more : (d part : List ℕ) (steps k byte : ℕ) → steps + steps ≤ length d → k < steps → part ≡ paste d steps d k → byte ≡ get_or part k 0
    → set part (steps + k) byte ≡ paste d steps d (k + 1)
double_more d part steps k byte l h e q =
    ap₂ (λ (r : List ℕ) (b : ℕ). set r (steps + k) b) e (q ∙ ap (λ (r : List ℕ). get_or r k 0) e ∙ paste_front d steps k k h (omega arith))
    ∙ paste-suc d steps d k 0 (omega arith) (omega arith)
    ∙ ap (λ (j : ℕ). paste d steps d j) (sym (add-one k))

-- ---- a line added behind the last one

doubled_rest : (part : List ℕ) (k : ℕ) → k ≤ length part → drop k (take k part ++ take k part ++ drop (k + k) part) ≡ take k part ++ drop (k + k) part
doubled_rest part k h =
    ap (drop k) (append_assoc (take k part) (take k part) (drop (k + k) part))
    ∙ drop_at (take k part) (take k part ++ drop (k + k) part) k (length-take-le k part h)

doubled_front : (part : List ℕ) (k : ℕ) → k ≤ length part → take k (take k part ++ take k part ++ drop (k + k) part) ≡ take k part
doubled_front part k h =
    ap (take k) (append_assoc (take k part) (take k part) (drop (k + k) part))
    ∙ take_at (take k part) (take k part ++ drop (k + k) part) k (length-take-le k part h)

pub added_is : {l : List ℕ} {m n : ℕ} (part : List ℕ) {part' whole new : List ℕ} {at i j : ℕ} (s : IsStrip m n (take (m + n) part))
    → (u : IsTurn l n s.steps at i j) → TurnInside m n at i j → m + n + (m + n) ≤ length part
    → whole ≡ take (m + n) part ++ take (m + n) part ++ drop (m + n + (m + n)) part
    → new ≡ bytes (trace (says_a l n) (i + (j - 1)) i (j - 1)) ++ drop (i + (j - 1)) (set (drop (m + n) whole) at 1)
    → part' ≡ take (m + n) whole ++ new → Added l n s.steps part part' true
added_is {l} {m} {n} part {part'} {whole} {new} {at} {i} {j} s u d h e q w = go (turned_is again u d q)
  where
    k : ℕ
    k = m + n

    rest : drop k whole ≡ take k part ++ drop (k + k) part
    rest = ap (drop k) e ∙ doubled_rest part k (omega arith)

    again : IsStrip m n (take (m + n) (drop k whole))
    again = record {
      steps = s.steps;
      written = ap (take k) rest ∙ take_at (take k part) (drop (k + k) part) k (length-take-le k part (omega arith)) ∙ s.written;
      strip = s.strip;
    }

    front : take k whole ≡ bytes s.steps
    front = ap (take k) e ∙ doubled_front part k (omega arith) ∙ s.written

    long : length s.steps ≡ k
    long = strip_length s.strip

    tail : drop (length s.steps) (drop k whole) ≡ drop (length s.steps + length s.steps) part
    tail =
        ap₂ (λ (a : ℕ) (r : List ℕ). drop a r) long rest
        ∙ drop_at (take k part) (drop (k + k) part) k (length-take-le k part (omega arith))
        ∙ ap (λ (a : ℕ). drop (a + a) part) (sym long)

    go : Turned l n s.steps (drop k whole) new true → Added l n s.steps part part' true
    go (turned x z p y early f) =
        added x z p y early
        (w ∙ ap₂ (λ (a b : List ℕ). a ++ b) front (f ∙ ap (λ (r : List ℕ). bytes (trace (says_a l n) (length x) (suc (steps_a x)) (pred (steps_b x)) ++ B ∷ z) ++ r) tail))
