-- Least, shortest, and used. W is any set of ways, `Good` says which of them count, and `long` is the length of each.
-- Assumes nothing.
use Rattle.std.specs.Prelude.{◌≡◌, ℕ, ◌≤◌}

-- l is the least length: some good way has it, and no good way is shorter
pub record IsLeast {W : Type 0} (Good : W → Type 0) (long : W → ℕ) (l : ℕ) : Type 0 where
  pub attained : (w : W) × Good w × (long w ≡ l)
  pub bound : (w : W) → Good w → l ≤ long w

-- w is a shortest way (the paper's most parsimonious reconstruction): it is good, and no good way is shorter
pub record Shortest {W : Type 0} (Good : W → Type 0) (long : W → ℕ) (w : W) : Type 0 where
  pub good : Good w
  pub least : (w' : W) → Good w' → long w ≤ long w'

-- the state x is used at the node v: some shortest way has it there
abbrev pub Used : {State : Type 0} → ((ℕ → State) → Type 0) → ((ℕ → State) → ℕ) → ℕ → State → Type 0
Used {State} Good long v x = (w : ℕ → State) × Shortest Good long w × (w v ≡ x)
