-- `strip::weigh` meets its contract: the walk is at the end of both sides, or the bytes are no strip. Assumes nothing.
use mathlib.Core.Path.{◌≡◌, sym, ◌∙◌}
use mathlib.Core.Logic.{◌⊎◌, inl, inr}
use Prim.Native.Nat.{ℕ}
use borrow.Author.Rules.{rules}
use mir.Syntax.{w64}
use Rattle.whole.proofs.Machine.{read_back}
use Rattle.trace.proofs.OutlineLaws.{fairly_count}
use Rattle.strip.specs.Weighed.{nothing}
use Rattle.strip.proofs.Along.{along_weighed, none_weighed}
use Rattle.strip.proofs.weigh.Goals as goal

pub returns-in_default : goal.returns-in_default
returns-in_default c = nothing c.in_default.ensures

pub returns-then-all-n : goal.returns-then-all-n
returns-then-all-n c =
    rw (read_back w64 c.in-Some.all.value (search rules))
    (along_weighed c.in-Some.ensures
    (c.if-all-m.true ∙ c.points_read-m.ensures ∙ sym (fairly_count c.args.a.now))
    (c.if-all-n.true ∙ c.points_read-n.ensures ∙ sym (fairly_count c.args.b.now)))

-- one of two numbers is not what it should be
missed : {i j m n p q : ℕ} → ((i ≡ m) × (j ≡ n → ⊥)) ⊎ (i ≡ m → ⊥) → m ≡ p → n ≡ q → (i ≡ p) × (j ≡ q) → ⊥
missed (inl x) em en (h, k) = x.1 (k ∙ sym en)
missed (inr x) em en (h, k) = x (h ∙ sym em)

pub returns-else-all-m : goal.returns-else-all-m
returns-else-all-m c =
    none_weighed c.in-Some.ensures
    (missed c.else-all-m.either (c.points_read-m.ensures ∙ sym (fairly_count c.args.a.now))
    (c.points_read-n.ensures ∙ sym (fairly_count c.args.b.now)))
