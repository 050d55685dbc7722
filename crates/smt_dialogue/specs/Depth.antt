-- How deep lists may nest. This is this project's rule.
use Rattle.std.specs.Prelude.{ℕ}
use Rattle.smt_theory.specs.declared.profile.Profile.{Profile}
use Rattle.smt_theory.specs.declared.profile.Profile.TheVariants.{Base, Wide}

-- how deep lists may nest in a script and its answers, a list at the top being at depth 1
abbrev pub max_depth_of : Profile → ℕ
max_depth_of Base = 1000
max_depth_of Wide = 1000000
