-- What an instruction does, uses and pays in a program with other names of classes and other code.
use Rattle.std.proofs.Common.{◌≡◌, ℕ, List, replicate, Option, Some, None, Result, Ok, Err, refl, ap, ◌∙◌}
use Rattle.std.specs.Option.{option_map}
use Rattle.dj_names.specs.declared.descriptor.Ty.{Ty}
use Rattle.dj_names.specs.declared.run.Value.{Value}
use Rattle.dj_names.specs.declared.run.Outcome.{Outcome}
use Rattle.dj_names.specs.trusted.Heaps.{Instance}
use Rattle.dj_names.specs.declared.descriptor.Desc.{Desc}
use Rattle.dj_names.specs.trusted.Types.{Name, field_kind}
use Rattle.dj_names.specs.Types.{type_map, desc_map}
use Rattle.dj_model.specs.trusted.Types.{Prefix, Member}
use Rattle.dj_model.specs.trusted.Instructions.{Named, Instruction, Nop, Push, PushText, Load, Store, Increment, LoadElement, StoreElement, Move, Compute, Convert, Branch, Goto, Switch, Return, GetStatic, PutStatic, GetField, PutField, Invoke, New, NewArray, ArrayLength, Throw, CheckCast, InstanceOf, Monitor, Other, Mode, Virtual, Special, Static, Interface}
use Rattle.dj_model.specs.Instructions.{instruction_map}
use Rattle.dj_model.specs.trusted.Program.{Program, Code, class_at}
use Rattle.dj_model.specs.Program.{class_map}
use Rattle.dj_model.specs.trusted.Linking.{FoundMethod, FoundField, field_count, member_class, resolve_field, resolve_method, static_place}
use Rattle.dj_model.specs.trusted.State.{Way, Terms, Part}
use Rattle.dj_model.specs.State.{part_map, effect_map}
use Rattle.dj_model.specs.trusted.Values.{Values, on_values}
use Rattle.dj_model.specs.trusted.Arrays.{OnHeap, load_element, store_element, array_length, make_array, make}
use Rattle.dj_model.specs.Arrays.{on_heap_map}
use Rattle.dj_model.specs.trusted.Performing.{takes}
use Rattle.dj_model.specs.trusted.Members.{with_literal}
use Rattle.dj_model.specs.trusted.Effects.{values_effect, heap_effect, new_object, effect, field_class, method_class, used_class}
use Rattle.dj_model.specs.Effects.{pays}
use Rattle.dj_model.specs.Mapping.{IsNameMap}
use Rattle.dj_model.proofs.MappedNames as names
use Rattle.dj_model.proofs.MappedHeaps.{load_mapped, store_mapped, length_mapped, make_mapped, make_array_mapped}
use Rattle.dj_model.proofs.MappedMembers as members

module _ (f : Name → Name) (g : Code → Code) (p q : Prefix) (is : IsNameMap f p q) (program other : Program)
    (at : (name : Name) → class_at other (f name) ≡ option_map (class_map f g) (class_at program name))
    (statics : (class name : Name) (desc : Desc) → static_place other (f class) name (desc_map f desc) ≡ static_place program class name desc) where
  values_mapped : (x : Part) (v : Option Values) → option_map (values_effect (part_map f x)) v ≡ option_map (effect_map f) (option_map (values_effect x) v)
  values_mapped x None = refl
  values_mapped x (Some v) = refl

  result_mapped : (x : Part) (e : OnHeap Ty) → heap_effect (part_map f x) (on_heap_map (type_map f) e) ≡ effect_map f (heap_effect x e)
  result_mapped x e = go e.result where
    go : (result : Result Way Outcome) → heap_effect (part_map f x) (on_heap_map (type_map f) (record e { result = result })) ≡ effect_map f (heap_effect x (record e { result = result }))
    go (Ok way) = refl
    go (Err outcome) = refl

  heap_mapped : (x : Part) (e : Option (OnHeap Ty))
      → option_map (heap_effect (part_map f x)) (option_map (on_heap_map (type_map f)) e) ≡ option_map (effect_map f) (option_map (heap_effect x) e)
  heap_mapped x None = refl
  heap_mapped x (Some e) = ap Some (result_mapped x e)

  new_object_mapped : (class : Ty) → new_object other q (type_map f class) ≡ Instance (type_map f class) (replicate (field_count program (member_class p class)) 0)
  new_object_mapped class = rw (names.member_class_mapped f g p q is class, names.field_count_alike f g p q is program other at (member_class p class)) refl

  other_mapped : (x : Part) (op : ℕ) (named : Named)
      → option_map (values_effect (part_map f x)) (on_values (instruction_map f (Other op named)) x.locals x.operands)
      ≡ option_map (effect_map f) (option_map (values_effect x) (on_values (Other op named) x.locals x.operands))
  unfolding on_values
  other_mapped x op named = refl

  pub effect_mapped : (terms : Terms) (own : Name) (i : Instruction) (x : Part)
      → effect other q terms (f own) (instruction_map f i) (part_map f x) ≡ option_map (effect_map f) (effect program p terms own i x)
  unfolding effect
  effect_mapped terms own (PushText units) x =
      ap Some (rw (members.literal_mapped f g p q is program other at statics terms.limit x.heap x.literals units)
      (members.push_mapped f g p q is program other at statics x units (with_literal terms.limit p x.heap x.literals units)))
  effect_mapped terms own (LoadElement access) x =
      rw (load_mapped (type_map f) access x.heap x.operands) (heap_mapped x (load_element access x.heap x.operands))
  effect_mapped terms own (StoreElement access) x =
      ap (option_map (heap_effect (part_map f x)))
      (store_mapped (type_map f) (takes program p x.heap) (takes other q (members.heap_with f g p q is program other at statics x.heap)) (members.takes_alike f g p q is program other at statics x.heap) access x.heap x.operands)
      ∙ heap_mapped x (store_element (takes program p x.heap) access x.heap x.operands)
  effect_mapped terms own (GetStatic m) x =
      rw (names.field_kind_alike f g p q is m.desc, names.resolve_field_mapped f g p q is program other at m)
      (members.get_static_mapped f g p q is program other at statics x (field_kind m.desc) (resolve_field program p m))
  effect_mapped terms own (PutStatic m) x =
      rw (names.field_kind_alike f g p q is m.desc, names.resolve_field_mapped f g p q is program other at m)
      (members.put_static_mapped f g p q is program other at statics x (field_kind m.desc) (resolve_field program p m) x.operands)
  effect_mapped terms own (GetField m) x =
      rw (names.field_kind_alike f g p q is m.desc, names.resolve_field_mapped f g p q is program other at m)
      (members.get_field_mapped f g p q is program other at statics x (field_kind m.desc) (resolve_field program p m) x.operands)
  effect_mapped terms own (PutField m) x =
      rw (names.field_kind_alike f g p q is m.desc, names.resolve_field_mapped f g p q is program other at m)
      (members.put_field_mapped f g p q is program other at statics x (field_kind m.desc) (resolve_field program p m) x.operands)
  effect_mapped terms own (Invoke mode m) x = members.invoke_mapped f g p q is program other at statics terms own mode m x
  effect_mapped terms own (New class) x =
      rw (names.member_class_mapped f g p q is class, names.field_count_alike f g p q is program other at (member_class p class))
      (ap (λ e. Some (heap_effect (part_map f x) e)) (make_mapped (type_map f) terms.limit x.heap x.operands x.operands (new_object program p class))
      ∙ ap Some (result_mapped x (make terms.limit x.heap x.operands x.operands (new_object program p class))))
  effect_mapped terms own (NewArray class element) x =
      rw (make_array_mapped (type_map f) terms.limit class element x.heap x.operands) (heap_mapped x (make_array terms.limit class element x.heap x.operands))
  effect_mapped terms own ArrayLength x = rw (length_mapped (type_map f) x.heap x.operands) (heap_mapped x (array_length x.heap x.operands))
  effect_mapped terms own Throw x = members.throw_mapped f g p q is program other at statics x x.operands
  effect_mapped terms own (CheckCast class) x = members.cast_mapped f g p q is program other at statics x class x.operands
  effect_mapped terms own (InstanceOf class) x = members.instance_of_mapped f g p q is program other at statics x class x.operands
  effect_mapped terms own Nop x = values_mapped x (on_values Nop x.locals x.operands)
  effect_mapped terms own (Push v) x = values_mapped x (on_values (Push v) x.locals x.operands)
  effect_mapped terms own (Load kind slot) x = values_mapped x (on_values (Load kind slot) x.locals x.operands)
  effect_mapped terms own (Store kind slot) x = values_mapped x (on_values (Store kind slot) x.locals x.operands)
  effect_mapped terms own (Increment slot by) x = values_mapped x (on_values (Increment slot by) x.locals x.operands)
  effect_mapped terms own (Move operation) x = values_mapped x (on_values (Move operation) x.locals x.operands)
  effect_mapped terms own (Compute operation) x = values_mapped x (on_values (Compute operation) x.locals x.operands)
  effect_mapped terms own (Convert operation) x = values_mapped x (on_values (Convert operation) x.locals x.operands)
  effect_mapped terms own (Branch test target) x = values_mapped x (on_values (Branch test target) x.locals x.operands)
  effect_mapped terms own (Goto target) x = values_mapped x (on_values (Goto target) x.locals x.operands)
  effect_mapped terms own (Switch pairs default) x = values_mapped x (on_values (Switch pairs default) x.locals x.operands)
  effect_mapped terms own (Return kind) x = values_mapped x (on_values (Return kind) x.locals x.operands)
  effect_mapped terms own Monitor x = values_mapped x (on_values Monitor x.locals x.operands)
  effect_mapped terms own (Other op named) x = other_mapped x op named

  -- ---- charges and used classes

  pub pays_alike : (i : Instruction) (operands : List Value) → pays other q (instruction_map f i) operands ≡ pays program p i operands
  unfolding pays
  pays_alike (New class) operands = rw (names.member_class_mapped f g p q is class, names.field_count_alike f g p q is program other at (member_class p class)) refl
  pays_alike Nop operands = refl
  pays_alike (Push v) operands = refl
  pays_alike (PushText units) operands = refl
  pays_alike (Load kind slot) operands = refl
  pays_alike (Store kind slot) operands = refl
  pays_alike (Increment slot by) operands = refl
  pays_alike (LoadElement access) operands = refl
  pays_alike (StoreElement access) operands = refl
  pays_alike (Move operation) operands = refl
  pays_alike (Compute operation) operands = refl
  pays_alike (Convert operation) operands = refl
  pays_alike (Branch test target) operands = refl
  pays_alike (Goto target) operands = refl
  pays_alike (Switch pairs default) operands = refl
  pays_alike (Return kind) operands = refl
  pays_alike (GetStatic m) operands = refl
  pays_alike (PutStatic m) operands = refl
  pays_alike (GetField m) operands = refl
  pays_alike (PutField m) operands = refl
  pays_alike (Invoke mode m) operands = refl
  pays_alike (NewArray class element) operands = refl
  pays_alike ArrayLength operands = refl
  pays_alike Throw operands = refl
  pays_alike (CheckCast class) operands = refl
  pays_alike (InstanceOf class) operands = refl
  pays_alike Monitor operands = refl
  pays_alike (Other op named) operands = refl

  field_class_mapped : (found : Option FoundField) → field_class (option_map (names.found_field_map f g p q is) found) ≡ option_map f (field_class found)
  field_class_mapped None = refl
  field_class_mapped (Some found) = refl

  method_class_mapped : (found : Option FoundMethod) → method_class (option_map (names.found_map f g p q is) found) ≡ option_map f (method_class found)
  method_class_mapped None = refl
  method_class_mapped (Some found) = refl

  used_of_call : (mode : Mode) (m : Member) → used_class other q (instruction_map f (Invoke mode m)) ≡ option_map f (used_class program p (Invoke mode m))
  unfolding used_class
  used_of_call Static m = rw (names.resolve_method_mapped f g p q is program other at m) (method_class_mapped (resolve_method program p m))
  used_of_call Virtual m = refl
  used_of_call Special m = refl
  used_of_call (Interface count) m = refl

  pub used_mapped : (i : Instruction) → used_class other q (instruction_map f i) ≡ option_map f (used_class program p i)
  unfolding used_class
  used_mapped (New class) = ap Some (names.member_class_mapped f g p q is class)
  used_mapped (GetStatic m) = rw (names.resolve_field_mapped f g p q is program other at m) (field_class_mapped (resolve_field program p m))
  used_mapped (PutStatic m) = rw (names.resolve_field_mapped f g p q is program other at m) (field_class_mapped (resolve_field program p m))
  used_mapped (Invoke mode m) = used_of_call mode m
  used_mapped Nop = refl
  used_mapped (Push v) = refl
  used_mapped (PushText units) = refl
  used_mapped (Load kind slot) = refl
  used_mapped (Store kind slot) = refl
  used_mapped (Increment slot by) = refl
  used_mapped (LoadElement access) = refl
  used_mapped (StoreElement access) = refl
  used_mapped (Move operation) = refl
  used_mapped (Compute operation) = refl
  used_mapped (Convert operation) = refl
  used_mapped (Branch test target) = refl
  used_mapped (Goto target) = refl
  used_mapped (Switch pairs default) = refl
  used_mapped (Return kind) = refl
  used_mapped (GetField m) = refl
  used_mapped (PutField m) = refl
  used_mapped (NewArray class element) = refl
  used_mapped ArrayLength = refl
  used_mapped Throw = refl
  used_mapped (CheckCast class) = refl
  used_mapped (InstanceOf class) = refl
  used_mapped Monitor = refl
  used_mapped (Other op named) = refl
