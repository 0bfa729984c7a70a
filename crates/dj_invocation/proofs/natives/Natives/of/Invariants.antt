use Rattle.std.proofs.Common.{◌≡◌, ◌<◌, ℕ, map, length, Some, slice_get}
use Rattle.dj_names.specs.declared.native.NativeId.{NativeId}
use Rattle.dj_names.specs.trusted.Types.{parameters_of}
use Rattle.dj_model.specs.trusted.Program.{Native}
use Rattle.dj_model.specs.trusted.Linking.{FoundMethod}
use Rattle.dj_numbering.specs.Members.{all_methods}
use Rattle.dj_image.specs.Imaged.{program_of, typed_of}
use Rattle.dj_invocation.specs.Natives.{AreClasses, row_at}
use Rattle.dj_invocation.proofs.natives.Natives.of.Given as goal

-- those of the methods so far
abbrev pub invariant-loop-number : goal.invariant-loop-number
invariant-loop-number l = record {
  long : length l.rows.items ≡ l.number;
  rows : (number : ℕ) (found : FoundMethod) (id : NativeId) → number < l.number → slice_get (all_methods (program_of l.image)) number ≡ Some found → found.method.body ≡ Native id
      → AreClasses (typed_of l.image) (parameters_of found.method.desc) (row_at (map (λ row. row.items) l.rows.items) number);
}
