-- Demand 3 over the public contracts: calls that begin with `best` and go on with `next` until none is left give exactly the strips of
-- greatest value, each once, in the stated order; such calls end, and none of them is refused while there is room. Each call's contract
-- says what `ways` means by first, next and none left, so the calls are a chain of `ways` and the theorems there say the rest.
-- Assumes nothing.
use Rattle.std.specs.Prelude.{Result, Ok, Some, None}
use Rattle.fault.specs.declared.Refusal.{Refusal}
use Rattle.joining.specs.Answers.{Followed}
use mathlib.Core.Path.{◌≡◌, refl, sym, ap, ap₂, ◌∙◌, subst}
use mathlib.Core.Logic.{◌⊎◌, inl, inr}
use mathlib.Core.List.{List, [], ◌∷◌, ◌++◌, map, map-append, append-nil}
use Prim.Native.Nat.{ℕ, zero, suc, ◌+◌, ◌^◌, ◌≤◌, ◌<◌}
use native.Mathlib.Omega.{arith}
use lib.IntN.{ℤ}
use lib.ListN.{length, take, drop, replicate, length-map, length-append, length-replicate}
use lib.Seq.{take_at}
use Rattle.fault.proofs.GateLaws.{stopped_not_passed}
use Rattle.strip.proofs.PairLaws.{open_pair}
use Rattle.strip.specs.Pair.{Pair}
use Rattle.ways.specs.Strip.{Step}
use Rattle.ways.specs.Best.{Onward, end, Listed}
use Rattle.ways.proofs.Greatest.{strip_length}
use Rattle.ways.proofs.Complete.{listed_all, listed_best, listed_order, listed_once, listed_ends}
use Rattle.ways.proofs.Runs.{Chain, one, more, chain_onward, onward_head, onward_exists}
use Rattle.strip.specs.Worth.{W, worths}
use Rattle.strip.specs.Bytes.{bytes}
use Rattle.strip.proofs.BytesLaws.{bytes_injective, bytes_length}
use Rattle.joining.specs.Answers.{Between, BestOf, FirstOf, NextOf, NoneLeftOf, HandedIn, HandedBest, strip_bytes, work_bytes, Enough, Given, Cleared, best_gates, next_gates, BestAnswer, best, NextAnswer, next, none_left}
use Rattle.joining.specs.Answers as Answers
use Rattle.joining.proofs.BestCases.{best_passed}
use Rattle.joining.proofs.NextCases.{next_passed}
use Rattle.joining.specs.Calls.{shown, Going, begun, went, Ended, ended, Whole, Program}

-- ---- the calls are a chain

record Chained (a b : List ℤ) (l : List (List ℕ)) (last : List ℕ) : Type 0 where
  pair : Pair a b
  start : List Step
  first : FirstOf a b start
  strips : List (List Step)
  final : List Step
  chain : Chain (Between a b) (W a b) start strips final
  best : BestOf a b final
  all : l ≡ map bytes strips
  final_shown : last ≡ bytes final

module _ (a b : List ℤ) where
  shown_given : {s : List Step} {strip strip' : List ℕ} → Between a b s → Given a b s strip strip' → shown a b strip' ≡ bytes s
  shown_given {s} {strip} i g =
      ap (take (strip_bytes a b)) g.front
      ∙ take_at (bytes s) (drop (strip_bytes a b) strip) (strip_bytes a b) (bytes_length s ∙ strip_length i)

  -- the strip handed in is the one that was given last
  handed_back : {s : List Step} (strip : List ℕ) {last : List ℕ} (h : HandedIn a b strip) → shown a b strip ≡ last → last ≡ bytes s → h.steps ≡ s
  handed_back {s} strip h e f = bytes_injective h.steps s (sym h.written ∙ e ∙ f)

  chained : {l : List (List ℕ)} {last : List ℕ} → Going a b l last → Chained a b l last
  chained (begun (best p s f g c)) = record {
    pair = open_pair p.0;
    start = s;
    first = f;
    strips = s ∷ [];
    final = s;
    chain = one s;
    best = f.best;
    all = ap (λ (x : List ℕ). x ∷ []) (shown_given f.best.is g);
    final_shown = shown_given f.best.is g;
  }
  chained (went {strip = strip} going back (next p h t f g c)) =
      let before = chained going in
      let n : NextOf a b before.final t = subst (λ (s : List Step). NextOf a b s t) (handed_back strip h.handed back before.final_shown) f in
      record {
        pair = open_pair p.0;
        start = before.start;
        first = before.first;
        strips = before.strips ++ t ∷ [];
        final = t;
        chain = more before.chain n;
        best = f.best;
        all =
            ap₂ (λ (x : List (List ℕ)) (y : List ℕ). x ++ y ∷ []) before.all (shown_given f.best.is g)
            ∙ sym (map-append bytes before.strips (t ∷ []));
        final_shown = shown_given f.best.is g;
      }

  -- from the last strip on to the end, however far that is
  onward_listed : {l : List (List ℕ)} {last : List ℕ} (c : Chained a b l last) (rest : List (List Step))
      → Onward (Between a b) (W a b) c.final (c.final ∷ rest) → Listed (Between a b) (W a b) (c.strips ++ rest)
  onward_listed c rest o = record { start = c.start; first = c.first; onward = chain_onward c.chain rest o }

  -- ---- the demand

  -- Calls that ended gave the whole list, from the first best strip on until none is left: all, only, in order, once.
  pub calls_list : {l : List (List ℕ)} → Ended a b l → Whole a b l
  calls_list (ended {strip = strip} going back (none_left p h f kept cleared)) =
      let c = chained going in
      let none = subst (NoneLeftOf a b) (handed_back strip h.handed back c.final_shown) f in
      let listed = onward_listed c [] (end none) in
      record {
        strips = c.strips ++ [];
        shows = c.all ∙ ap (map bytes) (sym (append-nil c.strips));
        all = λ s b. listed_all listed b;
        only = λ s m. listed_best listed m;
        order = listed_order listed;
        once = λ s x y. listed_once (listed_order listed) x y;
      }

  -- Calls end: they are at most 2 ^ (m + n).
  pub calls_end : {l : List (List ℕ)} {last : List ℕ} → Going a b l last → length l ≤ 2 ^ strip_bytes a b
  calls_end going =
      let c = chained going in
      let on = onward_exists (worths a b) c.best in
      let head = onward_head on.1 in
      let listed = onward_listed c head.0 (subst (Onward (Between a b) (W a b) c.final) head.1 on.1) in
      let k = listed_ends (λ t. strip_length) listed in
      omega (arith, ap length c.all, length-map c.strips bytes, length-append c.strips head.0)

  -- the strip that was given last is a best one where it is handed in
  handed_last : {l : List (List ℕ)} {last strip : List ℕ} → Going a b l last → shown a b strip ≡ last → HandedBest a b strip
  handed_last going back =
      let c = chained going in
      record { handed = record { steps = c.final; written = back ∙ c.final_shown; strip = c.best.is }; best = c.best }

  -- They begin: two accepted traces with room have a first best strip.
  pub calls_begin : {strip work strip' work' : List ℕ} {r : Result ℤ Refusal} → Pair a b → Enough a b strip work
      → BestAnswer a b strip work strip' work' r → (v : ℤ) × (r ≡ Ok v)
  calls_begin {strip = strip} {work = work} q room (Answers.BestAnswer.refused {r = r} x u) =
      absurd (stopped_not_passed (best_gates a b strip work) r x (best_passed q room))
  calls_begin q room (best p s f g c) = (W a b s, refl)

  -- None of them is refused while there is room.
  pub calls_go_on : {l : List (List ℕ)} {last strip work strip' work' : List ℕ} {r : Followed} → Going a b l last → shown a b strip ≡ last
      → Enough a b strip work → NextAnswer a b strip work strip' work' r → ((v : ℤ) × (r ≡ Ok (Some v))) ⊎ (r ≡ Ok None)
  calls_go_on {strip = strip} {work = work} going back room (Answers.NextAnswer.refused {r = r} x u) =
      absurd (stopped_not_passed (next_gates a b strip work) r x (next_passed (chained going).pair room (handed_last going back)))
  calls_go_on going back room (next p s t f g c) = inl (W a b t, refl)
  calls_go_on going back room (none_left p s f k c) = inr refl

  -- Calls that were stopped early gave the beginning of the whole list.
  pub calls_begin_the_list : {l : List (List ℕ)} {last : List ℕ} → Going a b l last → (rest : List (List ℕ)) × Whole a b (l ++ rest)
  calls_begin_the_list going =
      let c = chained going in
      let on = onward_exists (worths a b) c.best in
      let head = onward_head on.1 in
      let listed = onward_listed c head.0 (subst (Onward (Between a b) (W a b) c.final) head.1 on.1) in (
        map bytes head.0,
        record {
          strips = c.strips ++ head.0;
          shows = ap (λ (x : List (List ℕ)). x ++ map bytes head.0) c.all ∙ sym (map-append bytes c.strips head.0);
          all = λ s b. listed_all listed b;
          only = λ s m. listed_best listed m;
          order = listed_order listed;
          once = λ s x y. listed_once (listed_order listed) x y;
        },
      )

  -- ---- the calls reach the end

  -- what `next` gives back has the room that it was lent
  given_room : {t : List Step} {strip strip' work work' : List ℕ} → Between a b t → Enough a b strip work → Given a b t strip strip'
      → Cleared a b work work' → Enough a b strip' work'
  given_room {t} {strip} {strip'} {work} {work'} i e g c = record {
    for_strip = omega (arith, ap length g.front, length-append (bytes t) (drop (strip_bytes a b) strip), bytes_length t, strip_length i);
    for_work = omega (arith, ap length c.zeros, length-append (replicate {A = ℕ} (work_bytes a b) 0) (drop (work_bytes a b) work), length-replicate {A = ℕ} (work_bytes a b) 0);
  }

  module _ (p : Program a b) where
    -- one call more, or the end
    onward : {l : List (List ℕ)} {last strip work : List ℕ} → Going a b l last → shown a b strip ≡ last → Enough a b strip work
        → {strip' work' : List ℕ} {r : Followed} → NextAnswer a b strip work strip' work' r
        → Ended a b l ⊎ ((Going a b (l ++ shown a b strip' ∷ []) (shown a b strip')) × Enough a b strip' work')
    onward {strip = strip} {work = work} going back room (Answers.NextAnswer.refused {r = r} x u) =
        absurd (stopped_not_passed (next_gates a b strip work) r x (next_passed (chained going).pair room (handed_last going back)))
    onward going back room (next q s t f g c) = inr (went going back (next q s t f g c), given_room f.best.is room g c)
    onward going back room (none_left q s f k c) = inl (ended going back (none_left q s f k c))

    reach : (fuel : ℕ) {l : List (List ℕ)} {last strip work : List ℕ} → Going a b l last → shown a b strip ≡ last → Enough a b strip work
        → 2 ^ strip_bytes a b < length l + fuel → (l' : List (List ℕ)) × Ended a b l'
    reach zero going back room h = absurd (omega (arith, calls_end going))
    reach (suc fuel) {l} {last} {strip} {work} going back room h =
        go (λ g room' k. reach fuel g refl room' k) (onward going back room (p.meets strip work))
      where
        new : List ℕ
        new = shown a b (p.strip_after strip work)

        go : (Going a b (l ++ new ∷ []) new → Enough a b (p.strip_after strip work) (p.work_after strip work)
            → 2 ^ strip_bytes a b < length (l ++ new ∷ []) + fuel → (l' : List (List ℕ)) × Ended a b l')
            → Ended a b l ⊎ ((Going a b (l ++ new ∷ []) new) × Enough a b (p.strip_after strip work) (p.work_after strip work))
            → (l' : List (List ℕ)) × Ended a b l'
        go later (inl e) = (l, e)
        go later (inr (g, room')) = later g room' (omega (arith, length-append l (new ∷ [])))

    -- Begun with what `best` gave, the calls of any program that meets `next`'s contract reach "none left", and list all.
    pub calls_reach_the_end : {strip work strip' work' : List ℕ} {v : ℤ} → Enough a b strip work
        → BestAnswer a b strip work strip' work' (Ok v) → (l : List (List ℕ)) × (Ended a b l × Whole a b l)
    calls_reach_the_end room (best q s f g c) =
        let e = reach (2 ^ strip_bytes a b) (begun (best q s f g c)) refl (given_room f.best.is room g c) (omega arith) in
        (e.0, (e.1, calls_list e.1))
