-- The effect of an instruction on the local variables and operands of the top frame, the heap, the static fields, the literals, the account
-- and the host's answers (JVMS 6.5). It depends on names, flags, superclasses, interfaces and fields of the program, and not on code.
use Rattle.std.specs.Prelude.{Result, Ok, Err, replicate, Option, Some, None}
use Rattle.std.specs.Option.{option_map}
use Rattle.dj_names.specs.declared.descriptor.Ty.{Ty}
use Rattle.dj_names.specs.declared.run.Outcome.{Outcome}
use Rattle.dj_names.specs.trusted.Heaps.{Object, Instance}
use Rattle.dj_names.specs.trusted.Types.{Name, field_kind}
use Rattle.dj_model.specs.trusted.Types.{Prefix}
use Rattle.dj_model.specs.trusted.Instructions.{Instruction, PushText, LoadElement, StoreElement, GetStatic, PutStatic, GetField, PutField, Invoke, New, NewArray, ArrayLength, Throw, CheckCast, InstanceOf, Static}
use Rattle.dj_model.specs.trusted.Program.{Program}
use Rattle.dj_model.specs.trusted.Linking.{resolve_field, resolve_method, member_class, field_count, FoundField, FoundMethod}
use Rattle.dj_model.specs.trusted.State.{Terms, Part, Way, Flow, Goes, End, Effect}
use Rattle.dj_model.specs.trusted.Values.{Values, on_values}
use Rattle.dj_model.specs.trusted.Arrays.{OnHeap, load_element, store_element, array_length, make_array, make}
use Rattle.dj_model.specs.trusted.Performing.{takes}
use Rattle.dj_model.specs.trusted.Members.{get_static, put_static, get_field, put_field, with_literal, push_kept, check_cast, instance_of, throw_top, invoke}

abbrev pub values_effect : Part → Values → Effect
values_effect p v = record { part = record p { locals = v.locals; operands = v.operands }; flow = Goes v.way }

abbrev pub flow_of : Result Way Outcome → Flow
flow_of (Ok way) = Goes way
flow_of (Err outcome) = End outcome

abbrev pub heap_effect : Part → OnHeap Ty → Effect
heap_effect p e = record { part = record p { heap = e.heap; operands = e.operands }; flow = flow_of e.result }

-- an object whose fields are all 0 or null
abbrev pub new_object : Program → Prefix → Ty → Object Ty
new_object program prefix class = Instance class (replicate (field_count program (member_class prefix class)) 0)

-- the effect, in a method of the class `own`. None where the instruction lacks the kinds that it takes, names a member that doesn't resolve, or isn't supported
unfoldable pub effect : Program → Prefix → Terms → Name → Instruction → Part → Option Effect
effect program prefix terms own (PushText units) p = Some (push_kept p units (with_literal terms.limit prefix p.heap p.literals units))
effect program prefix terms own (LoadElement access) p = option_map (heap_effect p) (load_element access p.heap p.operands)
effect program prefix terms own (StoreElement access) p = option_map (heap_effect p) (store_element (takes program prefix p.heap) access p.heap p.operands)
effect program prefix terms own (GetStatic m) p = get_static program p (field_kind m.desc) (resolve_field program prefix m)
effect program prefix terms own (PutStatic m) p = put_static program p (field_kind m.desc) (resolve_field program prefix m) p.operands
effect program prefix terms own (GetField m) p = get_field program prefix p (field_kind m.desc) (resolve_field program prefix m) p.operands
effect program prefix terms own (PutField m) p = put_field program prefix p (field_kind m.desc) (resolve_field program prefix m) p.operands
effect program prefix terms own (Invoke mode m) p = invoke program prefix terms own mode m p
effect program prefix terms own (New class) p = Some (heap_effect p (make terms.limit p.heap p.operands p.operands (new_object program prefix class)))
effect program prefix terms own (NewArray class element) p = option_map (heap_effect p) (make_array terms.limit class element p.heap p.operands)
effect program prefix terms own ArrayLength p = option_map (heap_effect p) (array_length p.heap p.operands)
effect program prefix terms own Throw p = throw_top program prefix p p.operands
effect program prefix terms own (CheckCast class) p = check_cast program prefix p class p.operands
effect program prefix terms own (InstanceOf class) p = instance_of program prefix p class p.operands
effect program prefix terms own i p = option_map (values_effect p) (on_values i p.locals p.operands)

-- ---- the class that an instruction uses, which is initialised first (JVMS 5.5)

abbrev pub field_class : Option FoundField → Option Name
field_class None = None
field_class (Some found) = Some found.class

abbrev pub method_class : Option FoundMethod → Option Name
method_class None = None
method_class (Some found) = Some found.class

unfoldable pub used_class : Program → Prefix → Instruction → Option Name
used_class program prefix (New class) = Some (member_class prefix class)
used_class program prefix (GetStatic m) = field_class (resolve_field program prefix m)
used_class program prefix (PutStatic m) = field_class (resolve_field program prefix m)
used_class program prefix (Invoke Static m) = method_class (resolve_method program prefix m)
used_class program prefix i = None
