use Rattle.std.proofs.Common.{◌≡◌, ◌+◌, length}
use Rattle.dj_asm_tokens.specs.trusted.Words.{tokens_after}
use Rattle.dj_asm_tokens.proofs.place.Place.at_word.Given as goal

-- the rest has the tokens
abbrev pub invariant-loop-rest : goal.invariant-loop-rest
invariant-loop-rest l = record {
  tokens : tokens_after l.self.line l.column 0 l.rest ≡ tokens_after l.self.line l.self.column 0 l.self.rest.now;
  ends : l.column + length l.rest ≡ l.self.column + length l.self.rest.now;
}

abbrev pub decreases-loop-rest : goal.decreases-loop-rest
decreases-loop-rest l = length l.rest
