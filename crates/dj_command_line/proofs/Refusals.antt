-- What a refusal by one of some kinds says.
use Rattle.std.proofs.Common.{◌≡◌, [], ◌∷◌, length, inl, inr}
use Rattle.clap.specs.Words.{IsAmong, HasKind, Kinds, kind_of}
use Rattle.clap.specs.declared.error.ErrorKind.{ErrorKind}
use Rattle.clap.specs.declared.error.ErrorKind.TheVariants.{OutOfMemory}
use Rattle.clap.specs.declared.error.Error.{Error}

pub among_some : (k : ErrorKind) (kinds : Kinds) → IsAmong k kinds → length kinds ≡ 0 → ⊥
among_some k [] among none = among
among_some k (x ∷ xs) among none = absurd cc

pub refused : (e : Error) (kinds : Kinds) → HasKind kinds e → (kind_of e ≡ OutOfMemory → ⊥) → length kinds ≡ 0 → ⊥
refused e kinds (inl memory) other none = other memory
refused e kinds (inr among) other none = among_some (kind_of e) kinds among none
