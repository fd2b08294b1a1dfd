use Rattle.std.proofs.Common.{◌≡◌, ℕ, ◌+◌, ◌<◌, length, get_or}
use Rattle.register.proofs.decoding.bytes_at.Given as goal

abbrev pub invariant-loop-k : goal.invariant-loop-k
invariant-loop-k g l = (length l.bytes ≡ g.row.N) × ((k : ℕ) → k < l.k → get_or l.bytes k 0 ≡ get_or l.list (l.at + k) 0)
