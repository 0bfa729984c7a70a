use Rattle.std.proofs.Common.{◌≡◌, ◌+◌, ◌++◌, take, length}
use Rattle.dj_pool.specs.trusted.Pool.{IsPool}
use Rattle.dj_rename.specs.Accounting.{called_constants}
use Rattle.dj_rename.proofs.accounter.append_methods.Given as goal

-- the constants of the methods so far
abbrev pub invariant-loop-method : goal.invariant-loop-method
invariant-loop-method l = record {
  methods : l.now ≡ l.initial.now ++ called_constants l.class (length l.initial.now + 1) (take l.method-index l.methods);
  pool : IsPool l.now;
}
