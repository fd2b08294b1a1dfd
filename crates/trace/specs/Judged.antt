-- The judgement of a trace, as a computation: the six faults in 01's order, else "fit" with twice the area and the number of
-- points. `proofs/Exact.antt` shows that each is given exactly when 01 says.
use Rattle.std.specs.Prelude.{Bool, not, cond, ◌&&◌, List, ℕ, ◌+◌, ◌%◌, eqb, ltb, length, get_or, ℤ, pos, negsuc, Err}
use Rattle.std.specs.Int.Signed.{le_z}
use Rattle.std.specs.Ordering.{int_eq}
use Rattle.whole.specs.Tests.{some}
use Rattle.fault.specs.declared.Fault.TheVariants.{Shape, Few, Many, Range, Twin, Turn}
use Rattle.trace.specs.Judgement.{Judgement, fit_of}
use Rattle.trace.specs.Points.{count, px, py, twice_area}

-- from -100,000 to 100,000
unfoldable pub in_range : ℤ → Bool
in_range z = le_z (negsuc 99999) z && le_z z (pos 100000)

-- the number at k is outside its range
unfoldable pub out_at : List ℤ → ℕ → Bool
out_at c k = not (in_range (get_or c k (pos 0)))

-- point k equals the next
unfoldable pub twin_at : List ℤ → ℕ → Bool
twin_at c k = int_eq (px c k) (px c (k + 1)) && int_eq (py c k) (py c (k + 1))

-- faults 4 to 6, by whether there is a coordinate out of range, equal neighbours, and twice the area; else "fit"
unfoldable pub verdict_of : Bool → Bool → ℤ → ℕ → Judgement
verdict_of out twin area n =
    cond out (Err Range)
    (cond twin (Err Twin)
    (cond (le_z area (pos 0)) (Err Turn)
    (fit_of area n)))

unfoldable pub judged : List ℤ → Judgement
judged c =
    cond (eqb (length c % 2) 1) (Err Shape)
    (cond (ltb (count c) 3) (Err Few)
    (cond (ltb 250 (count c)) (Err Many)
    (verdict_of (some (length c) (out_at c)) (some (count c) (twin_at c)) (twice_area c) (count c))))
