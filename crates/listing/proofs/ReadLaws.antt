-- What reading answers, as the pair that is asked for: its two traces stand in the lists that were lent, unless they have over 250
-- points. Assumes nothing.
use mathlib.Core.Path.{◌≡◌, refl, sym, ap, ◌∙◌}
use mathlib.Core.List.{List}
use Prim.Native.Nat.{ℕ, ◌*◌, ◌≤◌}
use native.Mathlib.Omega.{arith}
use lib.IntN.{ℤ}
use lib.ListN.{length, take, drop, length-append}
use Rattle.trace.specs.Points.{count}
use Rattle.std.proofs.Common.{Option, None, Some}
use Rattle.listing.specs.declared.asked.Asked.{Asked}
use Rattle.listing.specs.Asked.{Reading, text, pair, reads}
use Rattle.listing.specs.Answer.{parsed_of, front, held_a, held_b, Answered}
use Rattle.listing.specs.Pairs.{Held}
use Rattle.listing.specs.Telling.{Kept}
use Rattle.listing.proofs.FillLaws.{front_all, front_take}
use Rattle.listing.proofs.AheadLaws.{same_some}
use Rattle.listing.proofs.Exact.{pair_exactly}

pub asked_text : (r : Reading) {a b a' b' : List ℤ} {o : Option Asked} → Answered r a b a' b' o → o ≡ None → r ≡ text
unfolding parsed_of
asked_text text w q = refl
asked_text (pair lower a upper b) w q = let d = w.answer in absurd (let z : ◌≡◌ {A = ℕ} 0 1 = cc in omega arith)

-- a trace of m points at the front of a list of 500 numbers
held : (c room : List ℤ) {m : ℕ} (k : ℕ) → length c ≡ 2 * k → m ≡ count c → 500 ≡ length room → Held c m (front c room)
unfolding count
held c room {m} k even e long = record {
  counted = twice;
  here = λ few.
      let fits : length c ≤ length room = omega arith in (
        omega (arith, ap length (front_all c room fits), length-append c (drop (length c) room)),
        ap (λ (n : ℕ). take n (front c room)) (sym twice) ∙ front_take c room fits,
      );
}
  where
    twice : length c ≡ 2 * m
    twice = omega arith

pub record AskedFor (t : List ℕ) (p : Asked) (a b : List ℤ) : Type 0 where
  pub kept_a : Kept p.lower.count a
  pub kept_b : Kept p.upper.count b
  pub here : reads t ≡ pair p.lower.plane kept_a.trace p.upper.plane kept_b.trace

pub asked_pair : (t : List ℕ) (r : Reading) {a b a' b' : List ℤ} {o : Option Asked} {p : Asked} → reads t ≡ r
    → Answered r a b a' b' o → o ≡ Some p → 500 ≡ length a → 500 ≡ length b → AskedFor t p a' b'
unfolding parsed_of held_a held_b
asked_pair t text e w q f g = let d = w.answer in absurd (let z : ◌≡◌ {A = ℕ} 0 1 = cc in omega arith)
asked_pair t (pair low l high k) {a} {b} {p = p} e w q f g =
    let d = same_some (sym q ∙ w.answer) in
    let asks = (pair_exactly t low l high k).0 e in
    let count_a : p.lower.count ≡ count l = ap (λ (p : Asked). p.lower.count) d in
    let count_b : p.upper.count ≡ count k = ap (λ (p : Asked). p.upper.count) d in
    let planeA : low ≡ p.lower.plane = sym (ap (λ (p : Asked). p.lower.plane) d) in
    let planeB : high ≡ p.upper.plane = sym (ap (λ (p : Asked). p.upper.plane) d) in
    record {
      kept_a = record { trace = l; held = rw w.lower (held l a asks.m asks.points_a count_a f) };
      kept_b = record { trace = k; held = rw w.upper (held k b asks.n asks.points_b count_b g) };
      here = rw (← planeA, ← planeB) e;
    }
