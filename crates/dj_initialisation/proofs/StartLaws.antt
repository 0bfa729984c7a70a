-- What a machine has before a run: no class is initialised, static fields are zero and there are no literals; and texts of an image that is numbered.
use Rattle.std.proofs.Common.{◌≡◌, ℕ, zero, suc, ◌<◌, ◌^◌, Bool, true, false, List, [], ◌∷◌, length, replicate, nat_eq, Option, Some, None, refl, sym, ap, ◌∙◌, inl, inr, if◌then◌else◌}
use Rattle.std.specs.Prelude.{Contains, slice_get, unwrap_or, option_and_then}
use Rattle.std.specs.Option.{option_map}
use Rattle.std.proofs.Common.{eqb-true}
use Rattle.std.proofs.lemmas.Bool.{eqb-false, false≢true}
use Rattle.std.proofs.lemmas.List.{length-replicate, get_or-replicate}
use Rattle.std.proofs.lemmas.Option.{none-some, same_Some, slice_get-get_or, slice_get_within}
use Rattle.dj_names.specs.trusted.Types.{same_name}
use Rattle.dj_model.specs.trusted.Program.{Program, Class, superclass_of}
use Rattle.dj_model.specs.trusted.Linking.{static_count}
use Rattle.dj_model.proofs.MappedNames.{either}
use Rattle.dj_declarations.proofs.DescTests.{same_name_is, same_name_itself}
use Rattle.dj_class_table.specs.Tables.{class_number, super_number}
use Rattle.dj_heap.specs.Heaps.{LimitedHeap}
use Rattle.dj_member_effects.specs.Literals.{text_at}
use Rattle.dj_numbering.proofs.Starts.{some_there}
use Rattle.dj_image.specs.Imaged.{Imaged, program_of, IsNumbered}
use Rattle.dj_image.specs.Operands.{units_number}
use Rattle.dj_initialisation.specs.Flags.{AreFlags, has_begun}
use Rattle.dj_initialisation.specs.Store.{AreTexts, IsStore, store}

-- ---- flags

not_begun_yet : (count k : ℕ) → k < count → has_begun (replicate count false) k ≡ false
not_begun_yet count k lt = get_or-replicate count k false true lt

past_program : (program : Program) (k j : ℕ) → super_number program k ≡ Some j → k < length program
past_program program k j e = by (slice_get program k) refl e where
  by : (o : Option Class) → slice_get program k ≡ o → option_and_then (class_number program) (superclass_of o) ≡ Some j → k < length program
  by None is e = absurd (none-some j e)
  by (Some c) is e = slice_get_within program k c is

pub flags_at_start : (program : Program) → length program < 2 ^ 32 → AreFlags program (replicate (length program) false)
flags_at_start program few = record {
  count = length-replicate (length program) false;
  few = few;
  above = λ k j begun super. absurd (false≢true (sym (not_begun_yet (length program) k (past_program program k j super)) ∙ begun));
}

-- ---- static fields and literals

pub store_at_start : (imaged : Imaged) (heap : LimitedHeap) → IsStore imaged (store heap (replicate (static_count (program_of imaged)) 0) (record { count = length imaged.texts; made = [] }))
store_at_start imaged heap = record { statics = length-replicate (static_count (program_of imaged)) 0; count = refl; texts = tt }

-- ---- texts

there : (texts : List (List ℕ)) (k : ℕ) → k < length texts → slice_get texts k ≡ Some (text_at texts k)
there texts k lt = let t : (text : List ℕ) × (slice_get texts k ≡ Some text) = some_there texts k lt in t.1 ∙ ap Some (sym (ap (λ (o : Option (List ℕ)). unwrap_or o []) t.1))

differ_by : (texts : List (List ℕ)) → ((a b : ℕ) (text : List ℕ) → slice_get texts a ≡ Some text → slice_get texts b ≡ Some text → a ≡ b)
    → (a b : ℕ) → a < length texts → b < length texts → same_name (text_at texts a) (text_at texts b) ≡ nat_eq a b
differ_by texts once a b la lb = elim (either (nat_eq a b)) [
  | inl e ↦ same_name_itself (text_at texts a) (text_at texts b) (ap (text_at texts) (eqb-true a b e)) ∙ sym e
  | inr e ↦ elim (either (same_name (text_at texts a) (text_at texts b))) [
    | inl same ↦
        (let is : text_at texts a ≡ text_at texts b = same_name_is (text_at texts a) (text_at texts b) same in
        let one : a ≡ b = once a b (text_at texts b) (there texts a la ∙ ap Some is) (there texts b lb) in
        absurd (eqb-false a b e one))
    | inr other ↦ other ∙ sym e
  ]
]

first_of : (texts : List (List ℕ)) (k : ℕ) (units : List ℕ) → slice_get texts k ≡ Some units → (n : ℕ) × (units_number texts units ≡ Some n)
first_of [] k units e = absurd (none-some units e)
first_of (x ∷ texts) zero units e = (0, ap (λ (b : Bool). if b then Some 0 else option_map suc (units_number texts units)) (same_name_itself x units (same_Some x units e)))
first_of (x ∷ texts) (suc k) units e = by (same_name x units) (first_of texts k units e) where
  by : (b : Bool) → (n : ℕ) × (units_number texts units ≡ Some n) → (n : ℕ) × ((if b then Some 0 else option_map suc (units_number texts units)) ≡ Some n)
  by true later = (0, refl)
  by false later = (suc later.0, ap (option_map suc) later.1)

-- an image that is numbered has each text once, and each with which a field begins
pub texts_of_numbered : (imaged : Imaged) → IsNumbered imaged → AreTexts imaged
texts_of_numbered imaged numbered = record {
  differ = differ_by imaged.texts numbered.once;
  there = λ units value.
      let has : Contains imaged.texts units = (numbered.texts units).1 (inr value) in
      first_of imaged.texts has.0 units (slice_get-get_or imaged.texts has.0 units has.1 ∙ ap Some has.2);
}
