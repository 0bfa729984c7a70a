-- What a host in memory answers.
use Rattle.std.specs.Prelude.{◌≡◌, List, ℤ, pos, ◌+ℤ◌, Result, Ok, Err}
use Rattle.std.specs.Int.{int_wrap, w64}
use Rattle.dj_edge.specs.declared.host.HostAnswer.{HostAnswer}
use Rattle.dj_edge.specs.declared.host.HostError.{HostError}
use Rattle.dj_edge.specs.declared.mem_host.MemHost.{MemHost}

-- the word that is the identity hash of every object
abbrev pub word_of : MemHost → ℤ
word_of m = m.word

-- the time that the host answers next
abbrev pub clock_of : MemHost → ℤ
clock_of m = m.clock

-- the answers so far
abbrev pub given_of : MemHost → List HostAnswer
given_of m = m.given.items

-- the answer is the word, and neither the word nor the clock changes
abbrev pub AnswersWord : MemHost → MemHost → Result ℤ HostError → Type 0
AnswersWord old new (Ok word) = (word ≡ word_of old) × (word_of new ≡ word_of old) × (clock_of new ≡ clock_of old)
AnswersWord old new (Err e) = (word_of new ≡ word_of old) × (clock_of new ≡ clock_of old)

-- the answer is the clock, which then goes up by one, from the type's last number to its first
abbrev pub AnswersTime : MemHost → MemHost → Result ℤ HostError → Type 0
AnswersTime old new (Ok time) = (time ≡ clock_of old) × (word_of new ≡ word_of old) × (clock_of new ≡ int_wrap w64 (clock_of old +ℤ pos 1))
AnswersTime old new (Err e) = (word_of new ≡ word_of old) × (clock_of new ≡ clock_of old)
