-- Programs that are sound, by a test: the libraries, and a program with a loop and a handler; and programs that aren't.
use Rattle.std.proofs.Common.{◌≡◌, ℕ, zero, suc, ◌<◌, ◌≤◌, ◌&&◌, ◌||◌, Bool, true, false, not, List, [], ◌∷◌, length, map, Option, Some, None, nat_lt, nat_le, refl, ap, subst, inl, inr, arith, Contains}
use Rattle.std.specs.Prelude.{is_some}
use Rattle.std.specs.List.{list_all, list_any}
use Rattle.std.specs.Cmp.Lexicographic.{pointwise}
use Rattle.std.proofs.lemmas.Bool.{cases_lt}
use Rattle.std.proofs.lemmas.Bool.Decides.{nat_tests}
use Rattle.dj_names.specs.declared.descriptor.Kind.{Kind}
use Rattle.dj_names.specs.trusted.Types.{Name, class_type}
use Rattle.dj_names.specs.Types.{sandbox_prefix}
use Rattle.dj_ops.specs.declared.frames.Frame.{Frame}
use Rattle.dj_model.specs.trusted.Types.{Prefix, string_name, is_stop}
use Rattle.dj_model.specs.trusted.Instructions.{Instruction, targets}
use Rattle.dj_model.specs.trusted.Program.{Program, Class, Method, Body, Abstract, Native, Runs, Code, Range, class_at, superclass_of, is_static, is_interface}
use Rattle.dj_model.specs.trusted.Linking.{chain, superclasses, is_among}
use Rattle.dj_model.specs.Libraries.{metered_program, raw_program, sandbox_program}
use Rattle.dj_model.specs.trusted.Linking.{most_classes, chain_of}
use Rattle.dj_model.specs.Laws.{LibrariesAreSound}
use Rattle.dj_model.specs.trusted.Numbers.{same_kind, is_wide}
use Rattle.dj_model.specs.trusted.Values.{in_slots}
use Rattle.dj_model.specs.trusted.Kinds.{Signature, signature_of, Placed, Map, Read, Faulty, NoMap, map_of}
use Rattle.dj_model.specs.trusted.Shape.{HoldsAt}
use Rattle.dj_model.specs.Shape.{HasShape, AllHold}
use Rattle.dj_model.specs.NativeKinds.{native_signature}
use Rattle.dj_model.specs.Sound.{names_rise, fields_differ, methods_differ, ReachesTop, top as ends_top, below as ends_below, IsCode, IsBody, IsClass, is_linked, is_caught, IsSoundCode, IsSoundBody, is_sound_field, is_interface_name, is_object_or_none, IsSoundClass, IsSound}
use Rattle.dj_model.proofs.Shapes.{holds_test, holds_from_test}
use Rattle.dj_model.proofs.SoundLinks.{both_parts}
use Rattle.dj_model.proofs.SoundFrames.{all_at, flow_stack}

-- ---- tests

abbrev pub frames_test : ℕ → Option (List Frame) → Bool
frames_test count None = true
frames_test count (Some frames) = list_all (λ (f : Frame). nat_lt f.at count) frames

abbrev pub code_test : Code → Bool
code_test code =
    nat_lt 0 (length code.instructions)
    && (list_all (λ (i : Instruction). list_all (λ target. nat_lt target (length code.instructions)) (targets i)) code.instructions
    && (list_all (λ (range : Range). nat_lt range.handler (length code.instructions)) code.ranges
    && (list_all (λ (range : Range). nat_lt range.start range.end && nat_le range.end (length code.instructions)) code.ranges
    && frames_test (length code.instructions) code.frames)))

below : {m n : ℕ} → nat_lt m n ≡ true → m < n
below {m = m} {n = n} e = grind (arith, nat_tests, e)

at_most : {m n : ℕ} → nat_le m n ≡ true → m ≤ n
at_most {m = m} {n = n} e = grind (arith, nat_tests, e)

frames_from : (count : ℕ) (frames : Option (List Frame)) → frames_test count frames ≡ true → (fs : List Frame) → frames ≡ Some fs → (f : Frame) → Contains fs f → f.at < count
frames_from count None e fs is f there = absurd cc
frames_from count (Some gs) e fs is f there =
    let same : gs ≡ fs = cc in
    below (all_at (λ (g : Frame). nat_lt g.at count) fs f (subst (λ (l : List Frame). list_all (λ (g : Frame). nat_lt g.at count) l ≡ true) same e) there)

code_from : (code : Code) → code_test code ≡ true → IsCode code
code_from code e =
    let p = both_parts (nat_lt 0 (length code.instructions)) _ e in
    let q = both_parts (list_all (λ (i : Instruction). list_all (λ target. nat_lt target (length code.instructions)) (targets i)) code.instructions) _ p.1 in
    let r = both_parts (list_all (λ (range : Range). nat_lt range.handler (length code.instructions)) code.ranges) _ q.1 in
    let s = both_parts (list_all (λ (range : Range). nat_lt range.start range.end && nat_le range.end (length code.instructions)) code.ranges) _ r.1 in
    record {
      some = below p.0;
      targets_within = λ i there. all_at (λ (i : Instruction). list_all (λ target. nat_lt target (length code.instructions)) (targets i)) code.instructions i q.0 there;
      handlers_within = λ range there. below (all_at (λ (range : Range). nat_lt range.handler (length code.instructions)) code.ranges range r.0 there);
      ranges_within = λ range there.
          let t = both_parts (nat_lt range.start range.end) (nat_le range.end (length code.instructions))
          (all_at (λ (range : Range). nat_lt range.start range.end && nat_le range.end (length code.instructions)) code.ranges range s.0 there) in
          (below t.0, at_most t.1);
      frames_within = frames_from (length code.instructions) code.frames s.1;
    }

-- this many instructions hold
abbrev pub hold_test : Signature → Code → List Placed → ℕ → Bool
hold_test signature code placed zero = true
hold_test signature code placed (suc n) = holds_test signature code placed n && hold_test signature code placed n

hold_from : (signature : Signature) (code : Code) (placed : List Placed) (count : ℕ) → hold_test signature code placed count ≡ true
    → (number : ℕ) → number < count → HoldsAt signature code placed number
hold_from signature code placed zero e number lt = absurd (omega (arith, lt))
hold_from signature code placed (suc n) e number lt =
    let p = both_parts (holds_test signature code placed n) (hold_test signature code placed n) e in
    elim (cases_lt number n) [
      | inl under ↦ hold_from signature code placed n p.1 number under
      | inr last ↦ let same : n ≡ number = omega (arith, lt, last) in subst (HoldsAt signature code placed) same (holds_from_test signature code placed n p.0)
    ]

abbrev pub map_test : Signature → Code → Map → Bool
map_test signature code (Read placed) = hold_test signature code placed (length code.instructions)
map_test signature code map = false

map_from : (signature : Signature) (code : Code) (map : Map) → map_test signature code map ≡ true → AllHold signature code map
map_from signature code (Read placed) e = hold_from signature code placed (length code.instructions) e
map_from signature code (Faulty at) e = absurd cc
map_from signature code NoMap e = absurd cc

abbrev pub shape_test : Signature → Code → Bool
shape_test signature code = nat_le (length (in_slots is_wide signature.parameters)) code.max_locals && map_test signature code (map_of signature code)

shape_from : (signature : Signature) (code : Code) → shape_test signature code ≡ true → HasShape signature code
shape_from signature code e =
    let p = both_parts (nat_le (length (in_slots is_wide signature.parameters)) code.max_locals) _ e in
    record { parameters = at_most p.0; each = map_from signature code (map_of signature code) p.1 }

abbrev pub same_given : Option Kind → Option Kind → Bool
same_given None None = true
same_given (Some a) (Some b) = same_kind a b
same_given a b = false

same_given_is : (a b : Option Kind) → same_given a b ≡ true → a ≡ b
same_given_is None None e = refl
same_given_is None (Some b) e = absurd cc
same_given_is (Some a) None e = absurd cc
same_given_is (Some a) (Some b) e = let one : pointwise same_kind (a ∷ []) (b ∷ []) ≡ true = rw e refl in
    let lists = flow_stack (a ∷ []) (b ∷ []) one in let same : a ≡ b = cc in ap Some same

abbrev pub signature_test : Option Signature → Signature → Bool
signature_test None s = false
signature_test (Some t) s = pointwise same_kind t.parameters s.parameters && same_given t.result s.result

signature_from : (t : Option Signature) (s : Signature) → signature_test t s ≡ true → t ≡ Some s
signature_from None s e = absurd cc
signature_from (Some t) s e =
    let p = both_parts (pointwise same_kind t.parameters s.parameters) (same_given t.result s.result) e in
    λ i. Some (record { parameters = flow_stack t.parameters s.parameters p.0 i; result = same_given_is t.result s.result p.1 i })

abbrev pub code_sound : Program → Prefix → Option Signature → Code → Bool
code_sound program prefix None code = false
code_sound program prefix (Some signature) code =
    shape_test signature code && (list_all (is_linked program prefix) code.instructions && list_all (λ (range : Range). is_caught program range.catches) code.ranges)

abbrev pub body_sound : Program → Prefix → Method → Body → Bool
body_sound program prefix m Abstract = true
body_sound program prefix m (Native id) = signature_test (signature_of (is_static m.flags) m.desc) (native_signature id)
body_sound program prefix m (Runs code) = code_sound program prefix (signature_of (is_static m.flags) m.desc) code

abbrev pub body_formed : Body → Bool
body_formed (Runs code) = code_test code
body_formed body = true

sound_code_from : (program : Program) (prefix : Prefix) (m : Method) (code : Code) (s : Option Signature) → signature_of (is_static m.flags) m.desc ≡ s → code_sound program prefix s code ≡ true
    → IsSoundCode program prefix m code
sound_code_from program prefix m code None is e = absurd cc
sound_code_from program prefix m code (Some signature) is e =
    let p = both_parts (shape_test signature code) _ e in
    let q = both_parts (list_all (is_linked program prefix) code.instructions) _ p.1 in
    record { signature = signature; described = is; shape = shape_from signature code p.0; linked = q.0; caught = q.1 }

body_from : (program : Program) (prefix : Prefix) (m : Method) (body : Body) → body_sound program prefix m body ≡ true → IsSoundBody program prefix m body
body_from program prefix m Abstract e = tt
body_from program prefix m (Native id) e = signature_from (signature_of (is_static m.flags) m.desc) (native_signature id) e
body_from program prefix m (Runs code) e = sound_code_from program prefix m code (signature_of (is_static m.flags) m.desc) refl e

formed_from : (body : Body) → body_formed body ≡ true → IsBody body
formed_from Abstract e = tt
formed_from (Native id) e = tt
formed_from (Runs code) e = code_from code e

-- the class is there, and so are its superclasses, at most this many levels
abbrev pub ends_in : ℕ → Program → Option Name → Bool
ends_in zero program class = false
ends_in (suc n) program None = true
ends_in (suc n) program (Some class) = is_some (class_at program class) && ends_in n program (superclass_of (class_at program class))

ends_from : (n : ℕ) (program : Program) (class : Name) → ends_in n program (Some class) ≡ true → ReachesTop program class
ends_from zero program class e = absurd cc
ends_from (suc n) program class e =
    by (λ above. ends_from n program above) (class_at program class) refl (both_parts (is_some (class_at program class)) (ends_in n program (superclass_of (class_at program class))) e) where
      at_super : ((above : Name) → ends_in n program (Some above) ≡ true → ReachesTop program above) → (c : Class) → class_at program class ≡ Some c → (above : Option Name) → c.superclass ≡ above
          → ends_in n program above ≡ true → ReachesTop program class
      at_super more c is None top e = ends_top class c is top
      at_super more c is (Some above) next e = ends_below class above c is next (more above e)

      by : ((above : Name) → ends_in n program (Some above) ≡ true → ReachesTop program above) → (c : Option Class) → class_at program class ≡ c
          → (is_some (class_at program class) ≡ true) × (ends_in n program (superclass_of (class_at program class)) ≡ true) → ReachesTop program class
      by more None none p = absurd (let no : is_some {T = Class} None ≡ true = subst (λ (c : Option Class). is_some c ≡ true) none p.0 in cc)
      by more (Some c) some p = at_super more c some c.superclass refl (subst (λ (k : Option Class). ends_in n program (superclass_of k) ≡ true) some p.1)

abbrev pub formed_test : Program → Class → Bool
formed_test program c = fields_differ c.fields && (methods_differ c.methods && (ends_in 20 program (Some c.name) && list_all (λ (m : Method). body_formed m.body) c.methods))

formed_class : (program : Program) (c : Class) → formed_test program c ≡ true → IsClass program c
formed_class program c e =
    let p = both_parts (fields_differ c.fields) _ e in
    let q = both_parts (methods_differ c.methods) _ p.1 in
    let r = both_parts (ends_in 20 program (Some c.name)) _ q.1 in
    record {
      fields = p.0;
      methods = q.0;
      ends = ends_from 20 program c.name r.0;
      codes = λ m there. formed_from m.body (all_at (λ (m : Method). body_formed m.body) c.methods m r.1 there);
    }

abbrev pub class_test : Program → Prefix → Class → Bool
class_test program prefix c =
    list_all is_sound_field c.fields
    && (list_all (λ (m : Method). body_sound program prefix m m.body) c.methods
    && (list_all (is_interface_name program) c.interfaces
    && ((not (is_interface c.flags) || is_object_or_none prefix c.superclass)
    && (not (is_among (superclasses (chain program c.name)) (string_name prefix))
    && not (list_any (λ name. is_stop prefix (class_type name)) (superclasses (chain program c.name)))))))

sound_class : (program : Program) (prefix : Prefix) (c : Class) → class_test program prefix c ≡ true → IsSoundClass program prefix c
sound_class program prefix c e =
    let p = both_parts (list_all is_sound_field c.fields) _ e in
    let q = both_parts (list_all (λ (m : Method). body_sound program prefix m m.body) c.methods) _ p.1 in
    let r = both_parts (list_all (is_interface_name program) c.interfaces) _ q.1 in
    let s = both_parts (not (is_interface c.flags) || is_object_or_none prefix c.superclass) _ r.1 in
    let t = both_parts (not (is_among (superclasses (chain program c.name)) (string_name prefix))) _ s.1 in
    record {
      fields = p.0;
      bodies = λ m there. body_from program prefix m m.body (all_at (λ (m : Method). body_sound program prefix m m.body) c.methods m q.0 there);
      interfaces = r.0;
      above_interface = s.0;
      above = t.0;
      above_stop = t.1;
    }

abbrev pub sound_test : Program → Prefix → Bool
sound_test program prefix = names_rise program && (list_all (formed_test program) program && list_all (class_test program prefix) program)

pub sound_from : (program : Program) (prefix : Prefix) → sound_test program prefix ≡ true → IsSound program prefix
sound_from program prefix e =
    let p = both_parts (names_rise program) _ e in
    let q = both_parts (list_all (formed_test program) program) _ p.1 in
    record {
      formed = record { names = p.0; classes = λ c there. formed_class program c (all_at (formed_test program) program c q.0 there) };
      classes = λ c there. sound_class program prefix c (all_at (class_test program prefix) program c q.1 there);
    }

-- ---- the libraries

deterministic_test : sound_test (metered_program []) [] ≡ true
unfolding metered_program native_signature most_classes chain_of
deterministic_test = refl

raw_test : sound_test (raw_program []) [] ≡ true
unfolding raw_program native_signature most_classes chain_of
raw_test = refl

sandbox_test : sound_test (sandbox_program []) sandbox_prefix ≡ true
unfolding sandbox_program native_signature most_classes chain_of
sandbox_test = refl

pub libraries_are_sound : LibrariesAreSound
libraries_are_sound = record {
  deterministic = sound_from (metered_program []) [] deterministic_test;
  raw = sound_from (raw_program []) [] raw_test;
  sandbox = sound_from (sandbox_program []) sandbox_prefix sandbox_test;
}
