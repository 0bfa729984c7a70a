-- The rewritten program of a sound program is sound.
use Rattle.std.proofs.Common.{◌≡◌, ℕ, zero, suc, ◌&&◌, Bool, true, false, List, [], ◌∷◌, map, Option, Some, None, refl, ap, subst, ◌∙◌, arith, Contains}
use Rattle.std.specs.Prelude.{bit_and}
use Rattle.std.specs.Option.{option_map}
use Rattle.std.specs.List.{list_all, list_any}
use Rattle.dj_names.specs.declared.native.NativeId.{NativeId}
use Rattle.dj_names.specs.trusted.Types.{Name, class_type}
use Rattle.dj_names.specs.trusted.Library.{LibraryMethod, stop_class}
use Rattle.dj_names.specs.Library.{below_object, accounter_class, accounter_methods}
use Rattle.dj_names.specs.Types.{in_sandbox, sandbox_prefix, desc_map}
use Rattle.dj_model.specs.trusted.Types.{Declared, object_name, string_name, is_stop}
use Rattle.dj_model.specs.Types.{declared_map}
use Rattle.dj_model.specs.trusted.Program.{Program, Class, Method, Field, Body, Abstract, Native, Runs, class_at, superclass_of, is_named, is_static}
use Rattle.dj_model.specs.Program.{body_map, method_map, field_map, class_map}
use Rattle.dj_model.specs.trusted.Linking.{most_classes, chain_of, chain, superclasses, is_among}
use Rattle.dj_model.specs.trusted.Libraries.{library_body, library_method, library_class, is_name_before}
use Rattle.dj_model.specs.trusted.Kinds.{Signature, signature_of}
use Rattle.dj_model.specs.NativeKinds.{native_signature}
use Rattle.dj_model.specs.Sound.{names_rise, fields_differ, methods_differ, ReachesTop, top as ends_top, below as ends_below, IsBody, IsClass, IsSoundBody, is_sound_field, is_interface_name, is_object_or_none, IsSoundClass, IsSound}
use Rattle.dj_model.specs.Standing.{AsksNothing, IsEntry}
use Rattle.dj_model.proofs.MappedNames as names
use Rattle.dj_model.proofs.NameMaps.{sandbox_map}
use Rattle.dj_model.proofs.QuietLibraries.{Quiet, quiet_all}
use Rattle.dj_groups.specs.Rewritten.{rewritten_code}
use Rattle.dj_sim.specs.Simulation.{HasObject}
use Rattle.dj_sim.proofs.Acts.{other, at}
use Rattle.dj_sim_sound.proofs.Lists.{each_at, mapped_from}
use Rattle.dj_sim_sound.proofs.Shapes.{signature_alike}
use Rattle.dj_sim_sound.proofs.Holds.{shape_now}
use Rattle.dj_sim_sound.proofs.Codes.{formed_now, static_kept, code_linked, code_caught}

abbrev pub accounter : Class
accounter = library_class (below_object accounter_class accounter_methods)

abbrev stop : Class
stop = library_class (below_object stop_class [])

module _ (program : Program) where
  abbrev now : Program
  now = other program

  abbrev class_now : Class → Class
  class_now c = class_map in_sandbox (rewritten_code program) c

  abbrev method_now : Method → Method
  method_now m = method_map in_sandbox (rewritten_code program) m

  -- the accounter, the class of the object that stops a run, and then the program's classes
  each_class : (P : Class → Type 0) → P accounter → P stop → ((c : Class) → Contains program c → P (class_now c)) → (c : Class) → Contains now c → P c
  each_class P first second others c (zero, lt, is) = subst P is first
  each_class P first second others c (suc zero, lt, is) = subst P is second
  each_class P first second others c (suc (suc k), lt, is) = let r = mapped_from class_now program c (k, omega (arith, lt), is) in subst P r.2 (others r.0 r.1)

  -- ---- the order of names

  names_alike : (classes : List Class) → names_rise (map class_now classes) ≡ names_rise classes
  names_alike [] = refl
  names_alike (c ∷ []) = refl
  names_alike (c ∷ (d ∷ classes)) = ap (λ (b : Bool). is_name_before c.name d.name && b) (names_alike (d ∷ classes))

  stop_first : (classes : List Class) → names_rise classes ≡ true → names_rise (stop ∷ map class_now classes) ≡ true
  stop_first [] e = refl
  stop_first (c ∷ classes) e = names_alike (c ∷ classes) ∙ e

  -- ---- members

  any_field_alike : (x : Field) (fields : List Field)
      → list_any (λ (y : Field). is_named x.name (desc_map in_sandbox x.desc) y.name y.desc) (map (field_map in_sandbox) fields) ≡ list_any (λ (y : Field). is_named x.name x.desc y.name y.desc) fields
  any_field_alike x [] = refl
  any_field_alike x (y ∷ fields) =
      rw (names.named_alike in_sandbox (rewritten_code program) [] sandbox_prefix sandbox_map x.name x.desc y.name y.desc, any_field_alike x fields) refl

  fields_alike : (fields : List Field) → fields_differ (map (field_map in_sandbox) fields) ≡ fields_differ fields
  fields_alike [] = refl
  fields_alike (x ∷ fields) = rw (any_field_alike x fields, fields_alike fields) refl

  any_method_alike : (x : Method) (methods : List Method)
      → list_any (λ (y : Method). is_named x.name (desc_map in_sandbox x.desc) y.name y.desc) (map method_now methods) ≡ list_any (λ (y : Method). is_named x.name x.desc y.name y.desc) methods
  any_method_alike x [] = refl
  any_method_alike x (y ∷ methods) =
      rw (names.named_alike in_sandbox (rewritten_code program) [] sandbox_prefix sandbox_map x.name x.desc y.name y.desc, any_method_alike x methods) refl

  methods_alike : (methods : List Method) → methods_differ (map method_now methods) ≡ methods_differ methods
  methods_alike [] = refl
  methods_alike (x ∷ methods) = rw (any_method_alike x methods, methods_alike methods) refl

  described_now : (m : Method) (o : Option Signature) → signature_of (is_static m.flags) m.desc ≡ o → signature_of (is_static (bit_and m.flags 65503)) (desc_map in_sandbox m.desc) ≡ o
  described_now m o e = rw (static_kept m.flags, signature_alike (is_static m.flags) m.desc) e

  formed_body : (body : Body) → IsBody body → IsBody (body_map (rewritten_code program) body)
  formed_body Abstract formed = tt
  formed_body (Native id) formed = tt
  formed_body (Runs code) formed = formed_now program code formed

  sound_body : (m : Method) (body : Body) → IsBody body → IsSoundBody program [] m body → IsSoundBody now sandbox_prefix (method_now m) (body_map (rewritten_code program) body)
  sound_body m Abstract formed sound = tt
  sound_body m (Native id) formed sound = described_now m (Some (native_signature id)) sound
  sound_body m (Runs code) formed sound = record {
    signature = sound.signature;
    described = described_now m (Some sound.signature) sound.described;
    shape = shape_now sound.signature program code formed sound.shape;
    linked = code_linked program code sound.linked;
    caught = code_caught program code sound.caught;
  }

  -- ---- classes

  reaches : (class : Name) → ReachesTop program class → ReachesTop now (in_sandbox class)
  reaches class (ends_top name c there none) = ends_top (in_sandbox name) (class_now c) (at program name ∙ ap (option_map class_now) there) (ap (option_map in_sandbox) none)
  reaches class (ends_below name above c there next more) =
      ends_below (in_sandbox name) (in_sandbox above) (class_now c) (at program name ∙ ap (option_map class_now) there) (ap (option_map in_sandbox) next) (reaches above more)

  formed_class : (c : Class) → IsClass program c → IsClass now (class_now c)
  formed_class c formed = record {
    fields = fields_alike c.fields ∙ formed.fields;
    methods = methods_alike c.methods ∙ formed.methods;
    ends = reaches c.name formed.ends;
    codes = λ m there. let r = mapped_from method_now c.methods m there in subst (λ (n : Method). IsBody n.body) r.2 (formed_body r.0.body (formed.codes r.0 r.1));
  }

  sound_fields : (fields : List Field) → list_all is_sound_field fields ≡ true → list_all is_sound_field (map (field_map in_sandbox) fields) ≡ true
  sound_fields fields e = alike fields ∙ e where
    alike : (fields : List Field) → list_all is_sound_field (map (field_map in_sandbox) fields) ≡ list_all is_sound_field fields
    alike [] = refl
    alike (x ∷ fields) = rw (names.field_kind_alike in_sandbox (rewritten_code program) [] sandbox_prefix sandbox_map x.desc, alike fields) refl

  interface_alike : (name : Name) → is_interface_name now (in_sandbox name) ≡ is_interface_name program name
  interface_alike name = by (class_at program name) refl where
    by : (c : Option Class) → class_at program name ≡ c → is_interface_name now (in_sandbox name) ≡ is_interface_name program name
    by None e = rw (at program name, e) refl
    by (Some c) e = rw (at program name, e) refl

  interfaces_alike : (interfaces : List Name) → list_all (is_interface_name now) (map in_sandbox interfaces) ≡ list_all (is_interface_name program) interfaces
  interfaces_alike [] = refl
  interfaces_alike (name ∷ interfaces) = rw (interface_alike name, interfaces_alike interfaces) refl

  object_alike : (superclass : Option Name) → is_object_or_none sandbox_prefix (option_map in_sandbox superclass) ≡ is_object_or_none [] superclass
  object_alike None = refl
  object_alike (Some name) = names.same_names in_sandbox (rewritten_code program) [] sandbox_prefix sandbox_map name (object_name [])

  superclasses_now : (class : Name) → superclasses (chain now (in_sandbox class)) ≡ map in_sandbox (superclasses (chain program class))
  superclasses_now class =
      ap superclasses (names.chain_mapped in_sandbox (rewritten_code program) [] sandbox_prefix sandbox_map program now (at program) class)
      ∙ names.superclasses_mapped in_sandbox (rewritten_code program) [] sandbox_prefix sandbox_map (chain program class)

  text_alike : (classes : List Name) → is_among (map in_sandbox classes) (string_name sandbox_prefix) ≡ is_among classes (string_name [])
  text_alike classes = names.among_alike in_sandbox (rewritten_code program) [] sandbox_prefix sandbox_map classes (string_name [])

  no_stop : (classes : List Name) → list_any (λ name. is_stop sandbox_prefix (class_type name)) (map in_sandbox classes) ≡ false
  no_stop [] = refl
  no_stop (name ∷ classes) = rw (sandbox_map.stop (class_type name)) (no_stop classes)

  sound_class : (c : Class) → IsClass program c → IsSoundClass program [] c → IsSoundClass now sandbox_prefix (class_now c)
  sound_class c formed sound = record {
    fields = sound_fields c.fields sound.fields;
    bodies = λ m there. let r = mapped_from method_now c.methods m there in
        subst (λ (n : Method). IsSoundBody now sandbox_prefix n n.body) r.2 (sound_body r.0 r.0.body (formed.codes r.0 r.1) (sound.bodies r.0 r.1));
    interfaces = interfaces_alike c.interfaces ∙ sound.interfaces;
    above_interface = rw (object_alike c.superclass) sound.above_interface;
    above = rw (superclasses_now c.name, text_alike (superclasses (chain program c.name))) sound.above;
    above_stop = rw (superclasses_now c.name, no_stop (superclasses (chain program c.name))) refl;
  }

  -- ---- the accounter, and the class of the object that stops a run

  module _ (base : HasObject program) where
    abbrev object : Name
    object = in_sandbox (object_name [])

    object_now : class_at now object ≡ Some (class_now base.object)
    object_now = at program (object_name []) ∙ ap (option_map class_now) base.there

    object_top : ReachesTop now object
    object_top = ends_top object (class_now base.object) object_now (ap (option_map in_sandbox) base.top)

    library_codes : (methods : List LibraryMethod) (m : Method) → Contains (map library_method methods) m → IsBody m.body
    library_codes methods m there = let r = mapped_from library_method methods m there in subst (λ (n : Method). IsBody n.body) r.2 (native r.0) where
      native : (m : LibraryMethod) → IsBody (library_method m).body
      native m = by m.native where
        by : (id : Option NativeId) → IsBody (library_body id)
        by None = tt
        by (Some id) = tt

    formed_accounter : IsClass now accounter
    formed_accounter = record { fields = refl; methods = refl; ends = ends_below accounter_class object accounter refl refl object_top; codes = library_codes accounter_methods }

    formed_stop : IsClass now stop
    formed_stop = record { fields = refl; methods = refl; ends = ends_below stop_class object stop refl refl object_top; codes = library_codes [] }

    chain_from : (n : ℕ) (class : Name) (c : Class) → class_at now class ≡ Some c → c.superclass ≡ Some object → chain_of (suc (suc (suc n))) now (Some class) ≡ class ∷ object ∷ []
    unfolding chain_of
    chain_from n class c there next =
        ap (λ (names : List Name). class ∷ names) (ap (chain_of (suc (suc n)) now) (ap superclass_of there ∙ next)
        ∙ ap (λ (names : List Name). object ∷ names) (ap (chain_of (suc n) now) (ap superclass_of object_now ∙ ap (option_map in_sandbox) base.top)))

    chain_above : (class : Name) (c : Class) → class_at now class ≡ Some c → c.superclass ≡ Some object → chain now class ≡ class ∷ object ∷ []
    unfolding most_classes
    chain_above class c there next = chain_from 4294967293 class c there next

    sound_accounter : IsSoundClass now sandbox_prefix accounter
    unfolding native_signature
    sound_accounter = record {
      fields = refl;
      bodies = each_at (λ (m : Method). IsSoundBody now sandbox_prefix m m.body) accounter.methods (refl, (refl, (refl, (refl, (refl, (refl, tt))))));
      interfaces = refl;
      above_interface = refl;
      above = rw (chain_above accounter_class accounter refl refl) refl;
      above_stop = rw (chain_above accounter_class accounter refl refl) refl;
    }

    sound_stop : IsSoundClass now sandbox_prefix stop
    sound_stop = record {
      fields = refl;
      bodies = each_at (λ (m : Method). IsSoundBody now sandbox_prefix m m.body) stop.methods tt;
      interfaces = refl;
      above_interface = refl;
      above = rw (chain_above stop_class stop refl refl) refl;
      above_stop = rw (chain_above stop_class stop refl refl) refl;
    }

    -- ---- the program

    pub sound_now : IsSound program [] → IsSound now sandbox_prefix
    sound_now sound = record {
      formed = record {
        names = stop_first program sound.formed.names;
        classes = each_class (IsClass now) formed_accounter formed_stop (λ c there. formed_class c (sound.formed.classes c there));
      };
      classes = each_class (IsSoundClass now sandbox_prefix) sound_accounter sound_stop (λ c there. sound_class c (sound.formed.classes c there) (sound.classes c there));
    }

  -- ---- what asks the host, and the entry

  native_before : (body : Body) (id : NativeId) → body_map (rewritten_code program) body ≡ Native id → body ≡ Native id
  native_before Abstract id e = absurd cc
  native_before (Native other) id e = e
  native_before (Runs code) id e = absurd cc

  quiet_class : (c : Class) → Quiet c → Quiet (class_now c)
  quiet_class c quiet m id there body arguments =
      let r = mapped_from method_now c.methods m there in
      quiet r.0 id r.1 (native_before r.0.body id (ap (λ (n : Method). n.body) r.2 ∙ body)) arguments

  pub quiet_now : AsksNothing program → AsksNothing now
  quiet_now quiet c m id there own body arguments =
      let front = quiet_all (accounter ∷ stop ∷ []) refl in
      each_class Quiet front.0 front.1.0 (λ d contained. quiet_class d (λ n i in_class is vs. quiet d n i contained in_class is vs)) c there m id own body arguments

  pub entry_now : (entry : Declared) → IsEntry program entry → IsEntry now (declared_map in_sandbox entry)
  entry_now entry e = record {
    method = method_now e.method;
    there = names.method_at_mapped in_sandbox (rewritten_code program) [] sandbox_prefix sandbox_map program now (at program) entry ∙ ap (option_map method_now) e.there;
    code = rewritten_code program e.code;
    body = ap (body_map (rewritten_code program)) e.body;
    signature = e.signature;
    described = described_now e.method (Some e.signature) e.described;
    takes = e.takes;
  }
