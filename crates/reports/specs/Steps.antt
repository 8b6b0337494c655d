-- What the steps of the call ask and leave.
-- Assumes nothing.
use Rattle.std.specs.Prelude.{◌≡◌, List, ℕ, ◌-◌, ◌*◌, ◌≤◌, length}
use Rattle.choices.specs.declared.Resolve.{Resolve}
use Rattle.limits.specs.Limits.{InLimits}
use Rattle.fields.specs.Fitting.{Fitting}
use Rattle.reports.specs.Says.{Scored, Says}

-- a tree and a matrix of the sizes that a sheet can have
pub record Sized (n c : ℕ) (tree matrix : List ℕ) : Type 0 where
  pub limits : InLimits n c
  pub nodes : length tree ≡ 2 * n - 2
  pub cells : length matrix ≡ n * c
  pub few : n * c ≤ 16384

-- the whole report on a tree and a matrix is written, within 524,288 bytes
pub record Whole (n c : ℕ) (r : Resolve) (tree matrix before after : List ℕ) (size : ℕ) : Type 0 where
  pub written : List ℕ
  pub scored : Scored n c r tree matrix written
  pub fitting : Fitting before after 0 size written 524288

-- the whole report on a text is written, within as many
pub record Told (text before after : List ℕ) (size : ℕ) : Type 0 where
  pub written : List ℕ
  pub says : Says text written
  pub fitting : Fitting before after 0 size written 524288
