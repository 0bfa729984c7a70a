-- Laws of texts: what their words say, and where they say nothing.
use Rattle.std.specs.Prelude.{◌≡◌, ℕ, ◌⊎◌, List}
use Rattle.dj_asm_source.specs.declared.error.AsmError.{AsmError}
use Rattle.dj_asm_source.specs.trusted.Sources.{Source, IsTextOf}
use Rattle.dj_asm_source.specs.trusted.Faults.{WordFault}

-- the words of a text mean one source at most
abbrev pub OneSource : Type 0
OneSource = (text : List ℕ) (a b : Source) → IsTextOf text a → IsTextOf text b → a ≡ b

-- their first fault is one at most
abbrev pub OneWordFault : Type 0
OneWordFault = (text : List ℕ) (e f : AsmError) → WordFault text e → WordFault text f → e ≡ f

-- where they say a source they have no fault
abbrev pub NoFaultOfSource : Type 0
NoFaultOfSource = (text : List ℕ) (s : Source) (e : AsmError) → IsTextOf text s → WordFault text e → ⊥

-- they say a source, or have a first fault
abbrev pub SourceOrFault : Type 0
SourceOrFault = (text : List ℕ) → ((s : Source) × IsTextOf text s) ⊎ ((e : AsmError) × WordFault text e)
