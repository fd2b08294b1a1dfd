-- 01, "Cases to be proved together": "One table with one theorem over it holds the rows marked *." The theorem is `proofs/Rows.antt`.
use Rattle.std.specs.Prelude.{◌≡◌, List, [], ◌∷◌, ◌++◌, ℕ, ℤ, pos, replicate, Ok, Err, Some, None}
use Rattle.fault.specs.declared.Status.{Status}
use Rattle.fault.specs.Status.{result_status}
use Rattle.trace.specs.Points.{count}
use Rattle.trace.specs.Faults.{Given}
use Rattle.trace.specs.Status.{judgement_status}
use Rattle.ways.specs.Strip.{Step, A, B}
use Rattle.ways.specs.Strip as Ways
use Rattle.ways.specs.Best.{Best, FirstBest, Listed}
use Rattle.strip.specs.Worth.{value_of}
use Rattle.strip.specs.Bytes.{bytes}
use Rattle.strip.specs.Judging.{StripJudged}
use Rattle.joining.specs.Answers.{NextAnswer, Followed}
use Rattle.joining.specs.Status.{followed_status}

-- 01's number of an answer, and its place: 5 is TWIN, 6 TURN, 9 STRIP, 10 BELOW, 100 "None left"
abbrev pub status : ℕ → ℕ → Status
status n p = record { number = n; place = p }

-- what a row of the table says
pub data Row : Type 0 where
  -- the judgement of one trace
  judging : List ℤ → Status → Row
  -- the answer to a strip offered between two traces; its value, where it is accepted
  offering : List ℤ → List ℤ → List Step → Status → Row
  valued : List ℤ → List ℤ → List Step → ℤ → Row
  -- no strip between the two traces has a greater value than this one
  best : List ℤ → List ℤ → List Step → Row
  -- of those this one is the first
  first : List ℤ → List ℤ → List Step → Row
  -- these are all the best ones, in 01's order
  list : List ℤ → List ℤ → List (List Step) → Row
  -- the answer to a strip handed in for its next, which leaves the strip slice as it was
  asking : List ℤ → List ℤ → List Step → Status → Row

-- 16 work bytes are lent with a 7 in each: a refusal leaves them, else they are zero
abbrev pub work_after : Followed → List ℕ
work_after (Err r) = replicate 16 7
work_after (Ok None) = replicate 16 0
work_after (Ok (Some v)) = replicate 16 0

-- the contract allows an answer, and that has this status
pub record Answered {X : Type 0} (Allowed : X → Type 0) (statusIs : X → Status) (s : Status) : Type 0 where
  pub answer : X
  pub allowed : Allowed answer
  pub says : statusIs answer ≡ s

abbrev pub Holds : Row → Type 0
Holds (judging c n) = Answered (Given c) judgement_status n
Holds (offering a b s n) = Answered (StripJudged a b (bytes s)) result_status n
Holds (valued a b s v) = StripJudged a b (bytes s) (Ok v)
Holds (best a b s) = Best (Ways.Strip (count a) (count b)) (value_of a b) s
Holds (first a b s) = FirstBest (Ways.Strip (count a) (count b)) (value_of a b) s
Holds (list a b l) = Listed (Ways.Strip (count a) (count b)) (value_of a b) l
Holds (asking a b s n) = Answered (λ r. NextAnswer a b (bytes s) (replicate 16 7) (bytes s) (work_after r) r) followed_status n

pub data AllHold : List Row → Type 0 where
  none : AllHold []
  and : {r : Row} {l : List Row} → Holds r → AllHold l → AllHold (r ∷ l)

-- "Input `0 3 0 0 2 0 0 2 1 3 0 0 2 0 0 2`": the pair T has the same trace below and above
abbrev pub T : List ℤ
T = pos 0 ∷ pos 0 ∷ pos 2 ∷ pos 0 ∷ pos 0 ∷ pos 2 ∷ []

-- "B of T started one point later, (2,0) (0,2) (0,0)"
abbrev pub later : List ℤ
later = pos 2 ∷ pos 0 ∷ pos 0 ∷ pos 2 ∷ pos 0 ∷ pos 0 ∷ []

-- "A = (0,0) (2,0) (0,2) (0,0): TWIN", "(0,0) (0,2) (2,0): TURN; (0,0) (1,0) (2,0): TURN"
abbrev pub repeated : List ℤ
repeated = pos 0 ∷ pos 0 ∷ pos 2 ∷ pos 0 ∷ pos 0 ∷ pos 2 ∷ pos 0 ∷ pos 0 ∷ []

abbrev pub turned : List ℤ
turned = pos 0 ∷ pos 0 ∷ pos 0 ∷ pos 2 ∷ pos 2 ∷ pos 0 ∷ []

abbrev pub flat : List ℤ
flat = pos 0 ∷ pos 0 ∷ pos 1 ∷ pos 0 ∷ pos 2 ∷ pos 0 ∷ []

-- "T: the eight strips are best and value_of = 8 for each"
abbrev pub eight : List Row
eight =
    valued T T (B ∷ A ∷ B ∷ A ∷ B ∷ A ∷ []) (pos 8)
    ∷ best T T (B ∷ A ∷ B ∷ A ∷ B ∷ A ∷ [])
    ∷ valued T T (A ∷ B ∷ B ∷ A ∷ B ∷ A ∷ []) (pos 8)
    ∷ best T T (A ∷ B ∷ B ∷ A ∷ B ∷ A ∷ [])
    ∷ valued T T (B ∷ A ∷ A ∷ B ∷ B ∷ A ∷ []) (pos 8)
    ∷ best T T (B ∷ A ∷ A ∷ B ∷ B ∷ A ∷ [])
    ∷ valued T T (A ∷ B ∷ A ∷ B ∷ B ∷ A ∷ []) (pos 8)
    ∷ best T T (A ∷ B ∷ A ∷ B ∷ B ∷ A ∷ [])
    ∷ valued T T (B ∷ A ∷ B ∷ A ∷ A ∷ B ∷ []) (pos 8)
    ∷ best T T (B ∷ A ∷ B ∷ A ∷ A ∷ B ∷ [])
    ∷ valued T T (A ∷ B ∷ B ∷ A ∷ A ∷ B ∷ []) (pos 8)
    ∷ best T T (A ∷ B ∷ B ∷ A ∷ A ∷ B ∷ [])
    ∷ valued T T (B ∷ A ∷ A ∷ B ∷ A ∷ B ∷ []) (pos 8)
    ∷ best T T (B ∷ A ∷ A ∷ B ∷ A ∷ B ∷ [])
    ∷ valued T T (A ∷ B ∷ A ∷ B ∷ A ∷ B ∷ []) (pos 8)
    ∷ best T T (A ∷ B ∷ A ∷ B ∷ A ∷ B ∷ [])
    ∷ []

-- "T, AAABBB: value_of = 0, a strip", "T, AAAABB: STRIP", "B of T started one point later .. first best ABABAB, value_of = 8"; and the traces above, alone
-- and as the lower one of a pair, "place 0"
abbrev pub others : List Row
others =
    first T T (B ∷ A ∷ B ∷ A ∷ B ∷ A ∷ [])
    ∷ valued T T (A ∷ A ∷ A ∷ B ∷ B ∷ B ∷ []) (pos 0)
    ∷ offering T T (A ∷ A ∷ A ∷ A ∷ B ∷ B ∷ []) (status 9 0)
    ∷ first T later (A ∷ B ∷ A ∷ B ∷ A ∷ B ∷ [])
    ∷ valued T later (A ∷ B ∷ A ∷ B ∷ A ∷ B ∷ []) (pos 8)
    ∷ judging repeated (status 5 0)
    ∷ offering repeated T [] (status 5 0)
    ∷ judging turned (status 6 0)
    ∷ offering turned T [] (status 6 0)
    ∷ judging flat (status 6 0)
    ∷ offering flat T [] (status 6 0)
    ∷ []

-- 01's example prints them: "BABABA ABBABA BAABBA ABABBA BABAAB ABBAAB BAABAB ABABAB"
abbrev pub eight_strips : List (List Step)
eight_strips =
    (B ∷ A ∷ B ∷ A ∷ B ∷ A ∷ [])
    ∷ (A ∷ B ∷ B ∷ A ∷ B ∷ A ∷ [])
    ∷ (B ∷ A ∷ A ∷ B ∷ B ∷ A ∷ [])
    ∷ (A ∷ B ∷ A ∷ B ∷ B ∷ A ∷ [])
    ∷ (B ∷ A ∷ B ∷ A ∷ A ∷ B ∷ [])
    ∷ (A ∷ B ∷ B ∷ A ∷ A ∷ B ∷ [])
    ∷ (B ∷ A ∷ A ∷ B ∷ A ∷ B ∷ [])
    ∷ (A ∷ B ∷ A ∷ B ∷ A ∷ B ∷ [])
    ∷ []

abbrev pub four_strips : List (List Step)
four_strips =
    (A ∷ B ∷ A ∷ B ∷ A ∷ B ∷ [])
    ∷ (A ∷ A ∷ B ∷ B ∷ A ∷ B ∷ [])
    ∷ (A ∷ B ∷ A ∷ A ∷ B ∷ B ∷ [])
    ∷ (A ∷ A ∷ B ∷ A ∷ B ∷ B ∷ [])
    ∷ []

-- the whole lists, "four best strips" among them; "T, AAABBB: .. asking for its next gives BELOW", "T, ABABAB: next is 100"
abbrev pub lists : List Row
lists =
    list T T eight_strips
    ∷ list T later four_strips
    ∷ asking T T (A ∷ A ∷ A ∷ B ∷ B ∷ B ∷ []) (status 10 0)
    ∷ asking T T (A ∷ B ∷ A ∷ B ∷ A ∷ B ∷ []) (status 100 0)
    ∷ []

abbrev pub rows : List Row
rows = eight ++ (others ++ lists)
