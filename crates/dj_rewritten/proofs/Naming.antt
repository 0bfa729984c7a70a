-- What the indexes of a rewritten class name.
use Rattle.std.proofs.Common.{◌≡◌, ℕ, suc, ◌+◌, ◌*◌, List, [], map, length, Option, Some, None, slice_get, get_or, option_and_then, refl, ap, ◌∙◌, arith, length-append}
use Rattle.std.specs.Option.{option_map}
use Rattle.dj_names.specs.trusted.Library.{LibraryMethod}
use Rattle.dj_names.specs.Library.{accounter_class, accounter_methods}
use Rattle.dj_names.specs.declared.run.Element.TheVariants as elements
use Rattle.dj_names.specs.trusted.NameReading.{reads_class_name}
use Rattle.dj_names.specs.trusted.DescReading.{desc_read, method_read, params_read, type_read, dims_read, of_read, class_read, name_read, return_read, field_read}
use Rattle.dj_names.specs.trusted.Descriptors.{desc_text}
use Rattle.dj_pool.specs.trusted.Pool.{Constant, Utf8, NameAndType, Method, constant_at, text_of, text_at, class_text_of, class_name_at, names_of, name_and_type_at, both}
use Rattle.dj_model.specs.trusted.Types.{no_parameters}
use Rattle.dj_model.specs.trusted.Instructions.{AMethod}
use Rattle.dj_model.specs.trusted.Opcodes.{instruction_of, simple, member}
use Rattle.dj_declarations.specs.trusted.Files.{type_in, desc_in}
use Rattle.dj_program.specs.trusted.Naming.{named_at, named_by, named_or_another, member_from, instruction_in}
use Rattle.dj_groups.specs.Groups.{Jumps, Invocations, Throws, Allocations, Arrays, Catches, Inserted, Copy, ObjectBytes, ElementBytes, Record}
use Rattle.dj_groups.specs.Rewritten.{inserted_instruction}
use Rattle.dj_groups.specs.Grouped.{inserted_instr}
use Rattle.dj_rename.specs.Pools.{renamed_constant, renamed_pool, appended_texts, accounter_constants, first_index, rewritten_pool}
use Rattle.dj_rename.proofs.PoolLaws.{slice_get_right, length_map}

abbrev row : ℕ → LibraryMethod
row n = get_or accounter_methods n (record { flags = 0; name = []; desc = no_parameters; native = None })

module _ (pool : List Constant) (descs : List ℕ) where
  abbrev new : List Constant
  new = rewritten_pool pool descs

  abbrev first : ℕ
  first = first_index pool (appended_texts pool descs)

  -- ---- the accounter's constants

  pub from_first : (m : ℕ) → constant_at new (first + m) ≡ slice_get (accounter_constants first) m
  unfolding rewritten_pool renamed_pool
  from_first m =
      ap (constant_at new) (one_more (length pool + length (appended_texts pool descs)) m)
      ∙ slice_get_right (renamed_pool pool (appended_texts pool descs)) (accounter_constants first) m (length pool + length (appended_texts pool descs) + m)
      (omega (
        arith,
        length-append (map (renamed_constant pool (appended_texts pool descs)) pool) (map Utf8 (appended_texts pool descs)),
        length_map (renamed_constant pool (appended_texts pool descs)) pool,
        length_map Utf8 (appended_texts pool descs),
      )) where
        one_more : (a b : ℕ) → a + 1 + b ≡ suc (a + b)
        one_more a b = omega arith

  at_sum : (i m : ℕ) (k : Constant) → i ≡ first + m → slice_get (accounter_constants first) m ≡ Some k → constant_at new i ≡ Some k
  at_sum i m k e h = ap (constant_at new) e ∙ from_first m ∙ h

  accounter_named : class_name_at new (first + 1) ≡ Some accounter_class
  unfolding accounter_constants
  accounter_named =
      ap (λ (o : Option Constant). option_and_then (text_at new) (option_and_then class_text_of o)) (from_first 1)
      ∙ ap (option_and_then text_of) (at_sum first 0 (Utf8 accounter_class) (omega arith) refl)

  -- the method at this place of the accounter's list, by its four constants
  abbrev base : ℕ → ℕ
  base n = 2 + 4 * n

  method_named : (n : ℕ) (m : LibraryMethod) (x y u v : ℕ)
      → slice_get (accounter_constants first) (base n) ≡ Some (Utf8 m.name) → slice_get (accounter_constants first) (base n + 1) ≡ Some (Utf8 (desc_text m.desc))
      → slice_get (accounter_constants first) (base n + 2) ≡ Some (NameAndType x y) → x ≡ first + base n → y ≡ first + base n + 1
      → slice_get (accounter_constants first) (base n + 3) ≡ Some (Method u v) → u ≡ first + 1 → v ≡ first + base n + 2
      → named_at new (first + 5 + 4 * n) ≡ AMethod (member_from (accounter_class, (m.name, desc_text m.desc)))
  unfolding named_by
  method_named n m x y u v a b c cx cy d du dv =
      ap (λ (o : Option Constant). named_or_another (option_map (named_by new) o))
      (at_sum (first + 5 + 4 * n) (base n + 3) (Method u v) (omega arith) d)
      ∙ ap (λ (o : Option (List ℕ)). named_or_another (option_map AMethod (option_map member_from (both o (name_and_type_at new v)))))
      (ap (class_name_at new) du ∙ accounter_named)
      ∙ ap (λ (o : Option (List ℕ × List ℕ)). named_or_another (option_map AMethod (option_map member_from (both (Some accounter_class) o))))
      (ap (name_and_type_at new) dv ∙ names_are) where
        names_are : name_and_type_at new (first + base n + 2) ≡ Some (m.name, desc_text m.desc)
        names_are =
            ap (λ (o : Option Constant). option_and_then (λ (p : ℕ × ℕ). both (text_at new p.0) (text_at new p.1)) (option_and_then names_of o))
            (at_sum (first + base n + 2) (base n + 2) (NameAndType x y) (omega arith) c)
            ∙ ap (λ (o : Option (List ℕ)). both o (text_at new y))
            (ap (option_and_then text_of) (at_sum x (base n) (Utf8 m.name) cx a))
            ∙ ap (λ (o : Option (List ℕ)). both (Some m.name) o)
            (ap (option_and_then text_of) (at_sum y (base n + 1) (Utf8 (desc_text m.desc)) (omega (arith, cy)) b))

  -- what is inserted names the accounter's methods
  pub inserted_named : (x : Inserted) → instruction_in new (inserted_instr first x) ≡ inserted_instruction x
  unfolding instruction_of simple accounter_constants type_in desc_in desc_read method_read params_read type_read dims_read of_read class_read name_read reads_class_name return_read field_read
  inserted_named Copy = refl
  inserted_named (ObjectBytes n) = refl
  inserted_named (ElementBytes elements.Boolean) = refl
  inserted_named (ElementBytes elements.Byte) = refl
  inserted_named (ElementBytes elements.Char) = refl
  inserted_named (ElementBytes elements.Short) = refl
  inserted_named (ElementBytes elements.Int) = refl
  inserted_named (ElementBytes elements.Long) = refl
  inserted_named (ElementBytes elements.Ref) = refl
  inserted_named (Record Jumps) = ap (member 184) (method_named 0 (row 0) _ _ _ _ refl refl refl (omega arith) (omega arith) refl (omega arith) (omega arith))
  inserted_named (Record Invocations) = ap (member 184) (method_named 1 (row 1) _ _ _ _ refl refl refl (omega arith) (omega arith) refl (omega arith) (omega arith))
  inserted_named (Record Throws) = ap (member 184) (method_named 2 (row 2) _ _ _ _ refl refl refl (omega arith) (omega arith) refl (omega arith) (omega arith))
  inserted_named (Record Allocations) = ap (member 184) (method_named 3 (row 3) _ _ _ _ refl refl refl (omega arith) (omega arith) refl (omega arith) (omega arith))
  inserted_named (Record Arrays) = ap (member 184) (method_named 4 (row 4) _ _ _ _ refl refl refl (omega arith) (omega arith) refl (omega arith) (omega arith))
  inserted_named (Record Catches) = ap (member 184) (method_named 5 (row 5) _ _ _ _ refl refl refl (omega arith) (omega arith) refl (omega arith) (omega arith))
