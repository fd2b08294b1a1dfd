-- Every row of the table holds, by evaluation of the very definitions that the contracts cite. For the best strips (12)'s index of the
-- last pair is evaluated, which `ways` shows to be the greatest value; for the first ones rule (13)'s trace. Assumes nothing.
use mathlib.Core.Path.{◌≡◌, refl, sym, ◌∙◌, subst}
use mathlib.Core.List.{List, [], ◌∷◌, ◌++◌}
use Prim.Native.Nat.{ℕ, ◌+◌, ◌*◌, ◌≤◌}
use native.Mathlib.Omega.{arith}
use lib.IntN.{ℤ, pos}
use lib.ListN.{length, take, replicate}
use lib.Signed.{◌≤ℤ◌}
use Rattle.std.specs.Prelude.{Ok, Err, None}
use Rattle.whole.proofs.Order.{lt_z_true}
use Rattle.whole.specs.Sum.{sum}
use Rattle.whole.specs.Tests.{some}
use Rattle.fault.specs.declared.Fault.TheVariants.{Twin, Turn, Strip, Below}
use Rattle.fault.specs.declared.Status.{Status}
use Rattle.trace.specs.Judgement.{fit_of}
use Rattle.trace.specs.Points.{count, px, py, segment, twice_area}
use Rattle.trace.specs.Judged.{judged, verdict_of, out_at, twin_at, in_range}
use Rattle.fault.specs.Gates.{at}
use Rattle.strip.specs.Pair.{Pair, lower}
use Rattle.trace.proofs.Exact.{fit_exactly, given_of}
use Rattle.ways.specs.Strip.{Step, A, B, steps_a, steps_b}
use Rattle.ways.specs.Strip as Ways
use Rattle.ways.specs.Value.{value_from}
use Rattle.ways.specs.Best.{Best, FirstBest, Onward, end, on, Listed}
use Rattle.ways.specs.Keppel.{top, pointer, also_b, trace, traced, maxℤ}
use Rattle.ways.proofs.Answers.{nothing_greater, first_is_rule_13}
use Rattle.strip.specs.Worth.{W, worths, worth_a, worth_b}
use Rattle.strip.specs.Bytes.{bytes, times, IsStrip}
use Rattle.strip.specs.Judging.{StripJudged}
use Rattle.strip.proofs.JudgingLaws.{pair, strip, other}
use Rattle.joining.specs.Answers.{Enough, HandedIn, NextAnswer}
use Rattle.joining.proofs.NextCases.{below, none_left}
use Rattle.strip.proofs.BytesLaws.{numbers_exactly}
use Rattle.cases.proofs.Lists.{clear, turned_next, none_next}
use Rattle.cases.specs.Table.{Row, valued, best, Answered, AllHold, none, and, T, later, repeated, turned, flat, eight, others, eight_strips, four_strips, lists, rows}

-- ---- the traces

t_fit : judged T ≡ fit_of (pos 4) 3
unfolding judged verdict_of out_at twin_at in_range count px py segment twice_area sum some
t_fit = refl

later_fit : judged later ≡ fit_of (pos 4) 3
unfolding judged verdict_of out_at twin_at in_range count px py segment twice_area sum some
later_fit = refl

repeated_twin : judged repeated ≡ Err Twin
unfolding judged verdict_of out_at twin_at in_range count px py segment twice_area sum some
repeated_twin = refl

turned_turn : judged turned ≡ Err Turn
unfolding judged verdict_of out_at twin_at in_range count px py segment twice_area sum some
turned_turn = refl

flat_turn : judged flat ≡ Err Turn
unfolding judged verdict_of out_at twin_at in_range count px py segment twice_area sum some
flat_turn = refl

pairs : (b : List ℤ) → judged b ≡ fit_of (pos 4) 3 → Pair T b
pairs b e = record { lower = ((fit_exactly T (pos 4) 3).0 t_fit).0; upper = ((fit_exactly b (pos 4) 3).0 e).0 }

-- ---- a strip

-- offered, with the value that its sum evaluates to
offered : (b : List ℤ) {v : ℤ} (s : List Step) → Pair T b → Ways.Strip (count T) (count b) s → W T b s ≡ v
    → StripJudged T b (bytes s) (Ok v)
offered b s p i e =
    subst (λ (v : ℤ). StripJudged T b (bytes s) (Ok v)) e (strip p (record { steps = s; written = refl; strip = i }))

-- a best one, since it attains the last index
attains : (b : List ℤ) (s : List Step) → Ways.Strip (count T) (count b) s → W T b s ≡ top (worths T b) (count T) (count b)
    → Best (Ways.Strip (count T) (count b)) (W T b) s
attains b s i e = record { is = i; greatest = λ t j. subst (λ (v : ℤ). W T b t ≤ℤ v) (sym e) (nothing_greater (worths T b) j) }

-- the first one, since rule (13) traces it
traces : (b : List ℤ) (s : List Step) → traced (worths T b) (count T) (count b) ≡ s
    → FirstBest (Ways.Strip (count T) (count b)) (W T b) s
traces b s e = subst (FirstBest (Ways.Strip (count T) (count b)) (W T b)) e (first_is_rule_13 (worths T b) (count T) (count b))

-- ---- the table

-- an answer that is allowed, by its status
says : {X : Type 0} {P : X → Type 0} {f : X → Status} {n : Status} (r : X) → P r → f r ≡ n → Answered P f n
says r h e = record { answer = r; allowed = h; says = e }

-- T's and the later trace's numbers of points
three : (count T ≡ 3) × (count later ≡ 3)
unfolding count
three = (refl, refl)

of_three : (s : List Step) → steps_a s ≡ 3 → steps_b s ≡ 3 → Ways.Strip (count T) (count T) s × Ways.Strip (count T) (count later) s
of_three s a b =
    (record { has_a = a ∙ sym three.0; has_b = b ∙ sym three.0 }, record { has_a = a ∙ sym three.0; has_b = b ∙ sym three.1 })

-- (12)'s index of T's last pair
greatest_8 : top (worths T T) (count T) (count T) ≡ pos 8
unfolding top maxℤ count px py worth_a worth_b
greatest_8 = refl

-- the two rows of one of the eight
both : (s : List Step) {l : List Row} → steps_a s ≡ 3 → steps_b s ≡ 3 → W T T s ≡ pos 8 → AllHold l
    → AllHold (valued T T s (pos 8) ∷ best T T s ∷ l)
both s a b e rest =
    let i = (of_three s a b).0 in
    and (offered T s (pairs T t_fit) i e) (and (attains T s i (e ∙ sym greatest_8)) rest)

eight_hold : AllHold eight
unfolding steps_a steps_b value_from worth_a worth_b count px py
eight_hold =
    both _ refl refl refl
    (both _ refl refl refl
    (both _ refl refl refl
    (both _ refl refl refl
    (both _ refl refl refl
    (both _ refl refl refl
    (both _ refl refl refl
    (both _ refl refl refl none)))))))

-- four steps A are one too many
too_many : (l : List ℕ) → times 0 l ≡ 4 → IsStrip (count T) (count T) l → ⊥
too_many l e i = omega (arith, e, ((numbers_exactly l).0 i).zeros, three.0)

t_first : FirstBest (Ways.Strip (count T) (count T)) (W T T) (B ∷ A ∷ B ∷ A ∷ B ∷ A ∷ [])
unfolding count px py worth_a worth_b top maxℤ pointer trace
t_first = traces T (B ∷ A ∷ B ∷ A ∷ B ∷ A ∷ []) refl

later_first : FirstBest (Ways.Strip (count T) (count later)) (W T later) (A ∷ B ∷ A ∷ B ∷ A ∷ B ∷ [])
unfolding count px py worth_a worth_b top maxℤ pointer trace
later_first = traces later (A ∷ B ∷ A ∷ B ∷ A ∷ B ∷ []) refl

others_hold : AllHold others
unfolding steps_a steps_b value_from worth_a worth_b count px py top maxℤ pointer trace times
others_hold =
    and t_first
    (and (offered T (A ∷ A ∷ A ∷ B ∷ B ∷ B ∷ []) (pairs T t_fit) (of_three (A ∷ A ∷ A ∷ B ∷ B ∷ B ∷ []) refl refl).0 refl)
    (and (says (Err (at Strip 0)) (other (pairs T t_fit) (too_many _ refl)) refl)
    (and later_first
    (and (offered later (A ∷ B ∷ A ∷ B ∷ A ∷ B ∷ []) (pairs later later_fit) (of_three (A ∷ B ∷ A ∷ B ∷ A ∷ B ∷ []) refl refl).1 refl)
    (and (says (Err Twin) (given_of repeated_twin) refl)
    (and (says (Err (at Twin 0)) (pair (lower (given_of repeated_twin))) refl)
    (and (says (Err Turn) (given_of turned_turn) refl)
    (and (says (Err (at Turn 0)) (pair (lower (given_of turned_turn))) refl)
    (and (says (Err Turn) (given_of flat_turn) refl)
    (and (says (Err (at Turn 0)) (pair (lower (given_of flat_turn))) refl) none))))))))))

-- ---- the whole lists

best_of_t : (s : List Step) → steps_a s ≡ 3 → steps_b s ≡ 3 → W T T s ≡ pos 8 → Best (Ways.Strip (count T) (count T)) (W T T) s
best_of_t s a b e = attains T s (of_three s a b).0 (e ∙ sym greatest_8)

later_8 : top (worths T later) (count T) (count later) ≡ pos 8
unfolding top maxℤ count px py worth_a worth_b
later_8 = refl

best_of_later : (s : List Step) → steps_a s ≡ 3 → steps_b s ≡ 3 → W T later s ≡ pos 8
    → Best (Ways.Strip (count T) (count later)) (W T later) s
best_of_later s a b e = attains later s (of_three s a b).1 (e ∙ sym later_8)

t_onward : Onward (Ways.Strip (count T) (count T)) (W T T) (B ∷ A ∷ B ∷ A ∷ B ∷ A ∷ []) eight_strips
unfolding steps_a steps_b value_from worth_a worth_b count px py top maxℤ pointer also_b trace clear
t_onward =
    (on (turned_next (worths T T) (B ∷ []) (B ∷ A ∷ B ∷ A ∷ []) (best_of_t (B ∷ A ∷ B ∷ A ∷ B ∷ A ∷ []) refl refl refl) refl refl refl)
    (on (turned_next (worths T T) (A ∷ B ∷ B ∷ []) (B ∷ A ∷ []) (best_of_t (A ∷ B ∷ B ∷ A ∷ B ∷ A ∷ []) refl refl refl) refl refl refl)
    (on (turned_next (worths T T) (B ∷ []) (A ∷ B ∷ B ∷ A ∷ []) (best_of_t (B ∷ A ∷ A ∷ B ∷ B ∷ A ∷ []) refl refl refl) refl refl refl)
    (on (turned_next (worths T T) (A ∷ B ∷ A ∷ B ∷ B ∷ []) [] (best_of_t (A ∷ B ∷ A ∷ B ∷ B ∷ A ∷ []) refl refl refl) refl refl refl)
    (on (turned_next (worths T T) (B ∷ []) (B ∷ A ∷ A ∷ B ∷ []) (best_of_t (B ∷ A ∷ B ∷ A ∷ A ∷ B ∷ []) refl refl refl) refl refl refl)
    (on (turned_next (worths T T) (A ∷ B ∷ B ∷ []) (A ∷ B ∷ []) (best_of_t (A ∷ B ∷ B ∷ A ∷ A ∷ B ∷ []) refl refl refl) refl refl refl)
    (on (turned_next (worths T T) (B ∷ []) (A ∷ B ∷ A ∷ B ∷ []) (best_of_t (B ∷ A ∷ A ∷ B ∷ A ∷ B ∷ []) refl refl refl) refl refl refl)
    (end (none_next (worths T T) (A ∷ B ∷ A ∷ B ∷ A ∷ B ∷ []) (best_of_t (A ∷ B ∷ A ∷ B ∷ A ∷ B ∷ []) refl refl refl) refl)))))))))

later_onward : Onward (Ways.Strip (count T) (count later)) (W T later) (A ∷ B ∷ A ∷ B ∷ A ∷ B ∷ []) four_strips
unfolding steps_a steps_b value_from worth_a worth_b count px py top maxℤ pointer also_b trace clear
later_onward =
    (on (turned_next (worths T later) (A ∷ B ∷ []) (B ∷ A ∷ B ∷ []) (best_of_later (A ∷ B ∷ A ∷ B ∷ A ∷ B ∷ []) refl refl refl) refl refl refl)
    (on (turned_next (worths T later) (A ∷ A ∷ B ∷ B ∷ []) (B ∷ []) (best_of_later (A ∷ A ∷ B ∷ B ∷ A ∷ B ∷ []) refl refl refl) refl refl refl)
    (on (turned_next (worths T later) (A ∷ B ∷ []) (A ∷ B ∷ B ∷ []) (best_of_later (A ∷ B ∷ A ∷ A ∷ B ∷ B ∷ []) refl refl refl) refl refl refl)
    (end (none_next (worths T later) (A ∷ A ∷ B ∷ A ∷ B ∷ B ∷ []) (best_of_later (A ∷ A ∷ B ∷ A ∷ B ∷ B ∷ []) refl refl refl) refl)))))

-- ---- asked for the next

enough : (s : List Step) → length (bytes s) ≡ 6 → Enough T T (bytes s) (replicate 16 7)
enough s e = record {
  for_strip = omega (arith, e, three.0);
  for_work = subst (λ (k : ℕ). (k + 1) * (k + 1) ≤ length (replicate {A = ℕ} 16 0)) (sym three.0) (omega arith);
}

abbrev handed : (s : List Step) → take (count T + count T) (bytes s) ≡ bytes s → Ways.Strip (count T) (count T) s → HandedIn T T (bytes s)
handed s e i = record { steps = s; written = e; strip = i }

below_8 : NextAnswer T T (bytes (A ∷ A ∷ A ∷ B ∷ B ∷ B ∷ [])) (replicate 16 7) (bytes (A ∷ A ∷ A ∷ B ∷ B ∷ B ∷ [])) (replicate 16 7) (Err (at Below 0))
unfolding steps_a steps_b value_from worth_a worth_b count px py
below_8 =
    below (pairs T t_fit) (enough (A ∷ A ∷ A ∷ B ∷ B ∷ B ∷ []) refl) (handed (A ∷ A ∷ A ∷ B ∷ B ∷ B ∷ []) refl (of_three (A ∷ A ∷ A ∷ B ∷ B ∷ B ∷ []) refl refl).0)
    (of_three (A ∷ B ∷ A ∷ B ∷ A ∷ B ∷ []) refl refl).0 (lt_z_true (pos 0) (pos 8) refl)
    (record { strip_same = refl; work_same = refl })

none_left_lem : NextAnswer T T (bytes (A ∷ B ∷ A ∷ B ∷ A ∷ B ∷ [])) (replicate 16 7) (bytes (A ∷ B ∷ A ∷ B ∷ A ∷ B ∷ [])) (replicate 16 0) (Ok None)
unfolding steps_a steps_b value_from worth_a worth_b count px py top maxℤ pointer also_b trace clear
none_left_lem =
    let s : List Step = A ∷ B ∷ A ∷ B ∷ A ∷ B ∷ [] in
    let b = best_of_t s refl refl refl in
    none_left (pairs T t_fit) (enough s refl) (handed s refl b.is) b (none_next (worths T T) s b refl) refl (record { zeros = refl })

t_list : Listed (Ways.Strip (count T) (count T)) (W T T) eight_strips
t_list = record { start = B ∷ A ∷ B ∷ A ∷ B ∷ A ∷ []; first = t_first; onward = t_onward }

later_list : Listed (Ways.Strip (count T) (count later)) (W T later) four_strips
later_list = record { start = A ∷ B ∷ A ∷ B ∷ A ∷ B ∷ []; first = later_first; onward = later_onward }

lists_hold : AllHold lists
lists_hold =
    and t_list
    (and later_list
    (and (says (Err (at Below 0)) below_8 refl)
    (and (says (Ok None) none_left_lem refl) none)))

all_hold : {k l : List Row} → AllHold k → AllHold l → AllHold (k ++ l)
all_hold none y = y
all_hold (and h x) y = and h (all_hold x y)

-- "One table with one theorem over it"
pub rows_hold : AllHold rows
rows_hold = all_hold eight_hold (all_hold others_hold lists_hold)
