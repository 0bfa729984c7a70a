-- A call of a linked method keeps the kinds, or waits for an answer that the host doesn't give.
use Rattle.std.proofs.Common.{◌≡◌, ℕ, ◌&&◌, Bool, true, false, not, ℤ, List, [], ◌∷◌, ◌++◌, map, Option, Some, None, length, reverse, nat_eq, if◌then◌else◌, refl, ap, sym, subst, ◌∙◌, inl, inr, IsTrue}
use Rattle.std.specs.Prelude.{◌⊎◌, Contains}
use Rattle.std.proofs.lemmas.List.{append-nil, reverse-append, reverse-reverse, map-append}
use Rattle.dj_names.specs.declared.descriptor.Kind.{Kind}
use Rattle.dj_names.specs.declared.descriptor.Kind.TheVariants as kinds
use Rattle.dj_names.specs.declared.descriptor.Desc.{Desc}
use Rattle.dj_names.specs.declared.descriptor.Desc.TheVariants as descs
use Rattle.dj_names.specs.declared.descriptor.Ty.{Ty}
use Rattle.dj_names.specs.declared.run.Value.{Value}
use Rattle.dj_names.specs.declared.run.Value.TheVariants as values
use Rattle.dj_names.specs.declared.native.NativeId.{NativeId}
use Rattle.dj_names.specs.declared.native.NativeId.TheVariants as natives
use Rattle.dj_names.specs.declared.run.Raised.TheVariants as raises
use Rattle.dj_names.specs.trusted.Descriptors.{type_kind}
use Rattle.dj_names.specs.trusted.Values.{value_kind}
use Rattle.dj_names.specs.trusted.Types.{Name, same_name, same_desc, class_type, parameters_of}
use Rattle.dj_edge.specs.declared.host.HostAnswer.{HostAnswer}
use Rattle.dj_model.specs.trusted.Types.{Prefix, Member, initialiser_name, no_parameters}
use Rattle.dj_model.specs.trusted.Instructions.{Mode, Virtual, Special, Static, Interface, Instruction, Nop, Push, PushText, Load, Store, Increment, LoadElement, StoreElement, Move, Compute, Convert, Branch, Goto, Switch, Return, GetStatic, PutStatic, GetField, PutField, Invoke, New, NewArray, ArrayLength, Throw, CheckCast, InstanceOf, Monitor, Other}
use Rattle.dj_model.specs.Instructions.{calls}
use Rattle.dj_model.specs.trusted.Program.{Program, Class, Method, Body, Abstract, Native, Runs, Code, is_static, is_initialiser}
use Rattle.dj_model.specs.trusted.Linking.{FoundMethod, resolve_method, select, special_method, declared_of}
use Rattle.dj_model.specs.trusted.State.{Terms, Part, Raise, Goes, Effect, goes}
use Rattle.dj_model.specs.trusted.Natives.{Seen, Question, asks, answered, answer, host_answer}
use Rattle.dj_model.specs.NativeKinds.{native_signature}
use Rattle.dj_model.specs.trusted.Performing.{is_instance, seen, class_at_number, perform, with_answer, host_asked, native_asked, native}
use Rattle.dj_model.specs.trusted.Members.{broken, kinds_of, Arguments, with_last, taken_from, arguments_of, are_instances, run_body, run_method, received, asked_class, call_special, call_virtual, call, invoke}
use Rattle.dj_model.specs.trusted.Effects.{effect}
use Rattle.dj_model.specs.trusted.Kinds.{Signature, Kinds, signature_with, signature_result, call_signature, with_receiver, signature_of}
use Rattle.dj_model.specs.trusted.Shape.{is_static_mode, counts, call_kinds, gives, after}
use Rattle.dj_model.specs.Sound.{is_class_of, is_method_found, is_method_linked, is_linked, IsNative, IsSoundBody, IsSound}
use Rattle.dj_model.specs.Standing.{LocalsHave, HasKinds, with_given, IsSoundFlow, HasSoundEffect, IsUnanswered, IsStarved, AnswerKind}
use Rattle.dj_model.proofs.MappedNames.{either}
use Rattle.dj_model.proofs.Standing.{some_if, of_kind, Takes, given, Gives, gives_parts}
use Rattle.dj_model.proofs.SoundLinks.{both_parts, IsThere, class_contained, method_contained, there_name, resolved_there, selected_there, special_there, declared_there}
use Rattle.dj_model.proofs.SoundEffects.{sound_effect}
use Rattle.dj_model.proofs.SoundNatives.{answer_kind, Before, perform_sound}

host_kind : (id : NativeId) (heap : Seen) (z : ℤ) (args : List Value) (question : Question) → asks id args ≡ Some question → AnswerKind (native_signature id).result (host_answer id heap z args)
unfolding host_answer native_signature
host_kind natives.ObjectNew heap z args question e = absurd cc
host_kind natives.ObjectEquals heap z args question e = absurd cc
host_kind natives.ObjectHashCode heap z args question e = absurd cc
host_kind natives.ObjectToString heap z args question e = absurd cc
host_kind natives.StringLength heap z args question e = absurd cc
host_kind natives.StringIsEmpty heap z args question e = absurd cc
host_kind natives.StringToString heap z args question e = absurd cc
host_kind natives.StringCharAt heap z args question e = absurd cc
host_kind natives.StringEquals heap z args question e = absurd cc
host_kind natives.StringHashCode heap z args question e = absurd cc
host_kind natives.StringCompareTo heap z args question e = absurd cc
host_kind natives.StringCompareToObject heap z args question e = absurd cc
host_kind natives.StringStartsWith heap z args question e = absurd cc
host_kind natives.StringConcat heap z args question e = absurd cc
host_kind natives.StringSubstringFrom heap z args question e = absurd cc
host_kind natives.StringSubstring heap z args question e = absurd cc
host_kind natives.StringToCharArray heap z args question e = absurd cc
host_kind natives.StringValueOfChars heap z args question e = absurd cc
host_kind natives.StringValueOfChar heap z args question e = absurd cc
host_kind natives.StringValueOfInt heap z args question e = absurd cc
host_kind natives.StringValueOfLong heap z args question e = absurd cc
host_kind natives.StringValueOfBoolean heap z args question e = absurd cc
host_kind natives.BuilderNew heap z args question e = absurd cc
host_kind natives.BuilderNewText heap z args question e = absurd cc
host_kind natives.BuilderAppendText heap z args question e = absurd cc
host_kind natives.BuilderAppendChar heap z args question e = absurd cc
host_kind natives.BuilderAppendInt heap z args question e = absurd cc
host_kind natives.BuilderAppendLong heap z args question e = absurd cc
host_kind natives.BuilderAppendBoolean heap z args question e = absurd cc
host_kind natives.BuilderLength heap z args question e = absurd cc
host_kind natives.BuilderCharAt heap z args question e = absurd cc
host_kind natives.BuilderToString heap z args question e = absurd cc
host_kind natives.ThrowableNew heap z args question e = absurd cc
host_kind natives.ThrowableNewMessage heap z args question e = absurd cc
host_kind natives.ThrowableNewCause heap z args question e = absurd cc
host_kind natives.GetMessage heap z args question e = absurd cc
host_kind natives.GetCause heap z args question e = absurd cc
host_kind natives.AbsInt heap z args question e = absurd cc
host_kind natives.AbsLong heap z args question e = absurd cc
host_kind natives.MaxInts heap z args question e = absurd cc
host_kind natives.MaxLongs heap z args question e = absurd cc
host_kind natives.MinInts heap z args question e = absurd cc
host_kind natives.MinLongs heap z args question e = absurd cc
host_kind natives.IdentityHashCode heap z args question e = absurd cc
host_kind natives.ArrayCopy heap z args question e = absurd cc
host_kind natives.HostHashCode heap z args question e = refl
host_kind natives.HostToString heap z args question e = refl
host_kind natives.HostIdentityHashCode heap z args question e = refl
host_kind natives.NanoTime heap z args question e = refl
host_kind natives.CurrentTimeMillis heap z args question e = refl
host_kind natives.RecordJump heap z args question e = absurd cc
host_kind natives.RecordInvocation heap z args question e = absurd cc
host_kind natives.RecordThrow heap z args question e = absurd cc
host_kind natives.RecordAllocation heap z args question e = absurd cc
host_kind natives.RecordArray heap z args question e = absurd cc
host_kind natives.CheckCatch heap z args question e = absurd cc

-- the arguments' kinds, and what stands below them
taken_parts : (wanted more : List Kind) (operands : List Value) (rest : List Kind) → Takes (wanted ++ more) operands rest
    → (a : Arguments) × (taken_from wanted operands ≡ Some a) × (map value_kind a.values ≡ reverse wanted) × Takes more a.rest rest
taken_parts [] more operands rest t = (record { values = []; rest = operands }, refl, refl, t)
taken_parts (kind ∷ wanted) more [] rest t = absurd t
taken_parts (kind ∷ wanted) more (v ∷ operands) rest t =
    let r = taken_parts wanted more operands rest t.1 in
    let kinds_are : map value_kind (r.0.values ++ v ∷ []) ≡ reverse (kind ∷ wanted) =
    map-append value_kind r.0.values (v ∷ []) ∙ (ap (λ l. l ++ value_kind v ∷ []) r.2 ∙ (ap (λ (c : Kind). reverse wanted ++ c ∷ []) t.0 ∙ sym (reverse-append (kind ∷ []) wanted))) in
    (record { values = r.0.values ++ v ∷ []; rest = r.0.rest }, rw (of_kind kind v t.0) (ap (with_last v) r.1), kinds_are, r.3)

-- a call that waits for an answer, whatever the answers are
pub record Waits (program : Program) (prefix : Prefix) (terms : Terms) (x : Part) (e : List HostAnswer → Option Effect) : Type 0 where
  pub class : Class
  pub method : Method
  pub id : NativeId
  pub there : Contains program class × Contains class.methods method
  pub body : method.body ≡ Native id
  pub arguments : List Value
  pub rest : List Value
  pub question : Question
  pub asked : asks id arguments ≡ Some question
  pub does : (answers : List HostAnswer) → e answers ≡ native program prefix terms (record x { operands = rest; answers = answers }) id arguments
  pub unanswered : IsUnanswered question x.answers

module _ (program : Program) (prefix : Prefix) (is : IsSound program prefix) (terms : Terms) (own : Name) (signature : Signature) (code : Code) (mode : Mode) (m : Member) (k left : Kinds) (x : Part)
    (have : LocalsHave x.locals k.locals) (room : length x.locals ≡ code.max_locals) (sig : Signature) (described : signature_of (is_static_mode mode) m.desc ≡ Some sig)
    (named : same_name m.name initialiser_name ≡ false) (same : k.locals ≡ left.locals) where
  abbrev at_rest : List Value → Part
  at_rest rest = record x { operands = rest }

  abbrev with_answers : List Value → List HostAnswer → Part
  with_answers rest answers = record x { operands = rest; answers = answers }

  abbrev Called : (List HostAnswer → Option Effect) → Type 0
  Called e = ((does : Effect) × (e x.answers ≡ Some does) × IsSoundFlow program signature code (Invoke mode m) k left does.part does.flow) ⊎ Waits program prefix terms x e

  -- the effect of a native method, or that its question has no answer
  abbrev Performs : NativeId → List Value → Option Effect → Type 0
  Performs id args e = ((does : Effect) × (e ≡ Some does) × IsSoundFlow program signature code (Invoke mode m) k left does.part does.flow)
      ⊎ ((question : Question) × (asks id args ≡ Some question) × IsUnanswered question x.answers)

  either_call : (b : Bool) (e d : List HostAnswer → Option Effect) → Called e → Called d → Called (λ answers. if b then e answers else d answers)
  either_call true e d x y = x
  either_call false e d x y = y

  abbrev Ready : List Value → Type 0
  Ready rest = with_given sig.result (map value_kind rest) ≡ left.stack

  abbrev Found : FoundMethod → Type 0
  Found found = IsThere program m.name m.desc found × (is_static found.method.flags ≡ is_static_mode mode)

  found_described : (found : FoundMethod) → Found found → signature_of (is_static found.method.flags) found.method.desc ≡ Some sig
  found_described found f =
      subst (λ (d : Desc). signature_of (is_static found.method.flags) d ≡ Some sig) (sym (there_name program m.name m.desc found f.0).1)
      (subst (λ (s : Bool). signature_of s m.desc ≡ Some sig) (sym f.1) described)

  no_initialiser : (found : FoundMethod) → Found found → is_initialiser (declared_of found) ≡ false
  no_initialiser found f =
      subst (λ (n : Name). (same_name n initialiser_name && same_desc found.method.desc no_parameters) ≡ false) (sym (there_name program m.name m.desc found f.0).0) (rw named refl)

  performed : (id : NativeId) → native_signature id ≡ sig → (rest : List Value) → Ready rest → (answers : List HostAnswer) (heap : Seen)
      → (y : Part) → y ≡ record (at_rest rest) { answers = answers } → (a : _) → AnswerKind (native_signature id).result a
      → IsSoundFlow program signature code (Invoke mode m) k left (perform prefix terms y a).part (perform prefix terms y a).flow
  performed id signed rest ready answers heap y y_is a kind =
      perform_sound program signature code (Invoke mode m) k left sig.result refl same prefix terms y a
      (subst (λ (z : Part). Before program signature code (Invoke mode m) k left sig.result refl same z) (sym y_is) (record { locals = have; room = room; stack = ready }))
      (subst (λ (s : Signature). AnswerKind s.result a) signed kind)

  host_sound : (id : NativeId) → native_signature id ≡ sig → (args rest : List Value) → Ready rest → (question : Question) → asks id args ≡ Some question
      → (answers : List HostAnswer) → x.answers ≡ answers → Performs id args (host_asked program prefix terms (at_rest rest) id args question answers)
  host_sound id signed args rest ready question asked [] none = inr (question, asked, subst (IsUnanswered question) (sym none) tt)
  host_sound id signed args rest ready question asked (first ∷ others) some = answered_sound (answered question first) refl where
    answered_sound : (a : Option ℤ) → answered question first ≡ a → Performs id args (with_answer program prefix terms (record (at_rest rest) { answers = others }) id args a)
    answered_sound None none = inr (question, asked, subst (IsUnanswered question) (sym some) none)
    answered_sound (Some z) e = inl (
      _,
      refl,
      performed id signed rest ready others (seen program prefix x.heap) (record (at_rest rest) { answers = others }) refl
          (host_answer id (seen program prefix x.heap) z args) (host_kind id (seen program prefix x.heap) z args question asked),
    )

  native_sound : (id : NativeId) → native_signature id ≡ sig → (args rest : List Value) → Ready rest → Performs id args (native program prefix terms (at_rest rest) id args)
  unfolding native
  native_sound id signed args rest ready = asked_sound (asks id args) refl where
    asked_sound : (question : Option Question) → asks id args ≡ question → Performs id args (native_asked program prefix terms (at_rest rest) id args question)
    asked_sound None none = inl (
      _,
      refl,
      performed id signed rest ready x.answers (seen program prefix x.heap) (at_rest rest) refl
          (answer id (seen program prefix x.heap) args) (answer_kind id (seen program prefix x.heap) args),
    )
    asked_sound (Some question) some = host_sound id signed args rest ready question some x.answers refl

  native_called : (found : FoundMethod) → Found found → (id : NativeId) → found.method.body ≡ Native id → native_signature id ≡ sig → (args rest : List Value) → Ready rest
      → Called (λ answers. native program prefix terms (with_answers rest answers) id args)
  native_called found f id body signed args rest ready = elim (native_sound id signed args rest ready) [
    | inl d ↦ inl d
    | inr (question, asked, none) ↦ inr (record {
      class = f.0.class;
      method = found.method;
      id = id;
      there = ((class_contained program found.class f.0.class f.0.class_is).0, (method_contained f.0.class.methods m.name m.desc found.method f.0.method_is).0);
      body = body;
      arguments = args;
      rest = rest;
      question = question;
      asked = asked;
      does = λ answers. refl;
      unanswered = none;
    })
  ]

  native_signed : (found : FoundMethod) → Found found → (id : NativeId) → found.method.body ≡ Native id → native_signature id ≡ sig
  native_signed found f id body =
      let c = class_contained program found.class f.0.class f.0.class_is in
      let bodies = (is.classes f.0.class c.0).bodies found.method (method_contained f.0.class.methods m.name m.desc found.method f.0.method_is).0 in
      let native_is : IsNative found.method id = subst (λ (b : Body). IsSoundBody program prefix found.method b) body bodies in
      let signed : Some (native_signature id) ≡ Some sig = sym native_is ∙ found_described found f in cc

  body_sound : (found : FoundMethod) → Found found → (receiver args rest : List Value) (types : List Ty) → map value_kind (receiver ++ args) ≡ sig.parameters → Ready rest
      → (body : Body) → found.method.body ≡ body → Called (λ answers. run_body program prefix terms (with_answers rest answers) found receiver args types body)
  body_sound found f receiver args rest types takes ready Abstract body = inl (_, refl, tt)
  body_sound found f receiver args rest types takes ready (Runs callee) body = inl (
    _,
    refl,
    record {
      calls = refl;
      method = found.method;
      at = declared_there program m.name m.desc found f.0;
      callee = callee;
      body = body;
      signature = sig;
      described = found_described found f;
      takes = takes;
      no_initialiser = no_initialiser found f;
      keeps = record { kinds = have; room = room };
      locals = same;
      gives = ready;
    },
  )
  body_sound found f receiver args rest types takes ready (Native id) body =
      either_call (are_instances program prefix x.heap types args) _ (λ answers. Some (broken (with_answers rest answers)))
      (native_called found f id body (native_signed found f id body) (receiver ++ args) rest ready) (inl (_, refl, tt))

  method_sound : (receiver args rest : List Value) (types : List Ty) → map value_kind (receiver ++ args) ≡ sig.parameters → Ready rest
      → (found : Option FoundMethod) → ((f : FoundMethod) → found ≡ Some f → Found f) → Called (λ answers. run_method program prefix terms (with_answers rest answers) receiver args types found)
  method_sound receiver args rest types takes ready None there = inl (_, refl, tt)
  method_sound receiver args rest types takes ready (Some found) there = body_sound found (there found refl) receiver args rest types takes ready found.method.body refl

  received_sound : (rest : List Value) (r : ℕ) (declaring : Name) (e : List HostAnswer → Option Effect) → Called e
      → Called (λ answers. received program prefix (with_answers rest answers) r declaring (e answers))
  received_sound rest r declaring e called =
      either_call (nat_eq r 0) (λ answers. Some (goes (with_answers rest answers) (Goes (Raise raises.NullPointer)))) _ (inl (_, refl, record { kinds = have; room = room }))
      (either_call (is_instance program prefix x.heap r (class_type declaring)) e (λ answers. Some (broken (with_answers rest answers))) called (inl (_, refl, tt)))

  static_call : (resolved : FoundMethod) → Found resolved → (args rest : List Value) (types : List Ty) → map value_kind args ≡ sig.parameters → Ready rest
      → Called (λ answers. run_method program prefix terms (with_answers rest answers) [] args types (Some resolved))
  static_call resolved found args rest types takes ready = body_sound resolved found [] args rest types takes ready resolved.method.body refl

  pub special_call : (resolved : FoundMethod) → Found resolved → is_static_mode mode ≡ false → (r : ℕ) (args rest : List Value) (types : List Ty) → kinds.Ref ∷ map value_kind args ≡ sig.parameters → Ready rest
      → Called (λ answers. call_special program prefix terms (with_answers rest answers) resolved r args types (special_method program own resolved))
  special_call resolved found instance r args rest types takes ready = received_sound rest r (asked_class resolved (special_method program own resolved)) _
      (method_sound (values.Ref r ∷ []) args rest types takes ready (special_method program own resolved)
      (λ f e. let s = special_there program m.name m.desc own resolved f found.0 (found.1 ∙ instance) e in (s.0, s.1 ∙ sym instance)))

  pub virtual_call : (resolved : FoundMethod) → Found resolved → is_static_mode mode ≡ false → (r : ℕ) (args rest : List Value) (types : List Ty) → kinds.Ref ∷ map value_kind args ≡ sig.parameters → Ready rest
      → Called (λ answers. call_virtual program prefix terms (with_answers rest answers) resolved r args types)
  virtual_call resolved found instance r args rest types takes ready = received_sound rest r resolved.class _
      (method_sound (values.Ref r ∷ []) args rest types takes ready (select program prefix resolved (class_at_number x.heap r))
      (λ f e. let s = selected_there program prefix m.name m.desc resolved (class_at_number x.heap r) f found.0 (found.1 ∙ instance) e in (s.0, s.1 ∙ sym instance)))

-- ---- what a descriptor says

given_same : (result : Option Kind) (rest : List Kind) → given result rest ≡ with_given result rest
given_same None rest = refl
given_same (Some kind) rest = refl

signature_parts : (result : Option Kind) (ps : Option (List Kind)) (sig : Signature) → signature_with result ps ≡ Some sig → ps ≡ Some sig.parameters
signature_parts result None sig e = absurd cc
signature_parts result (Some ps) sig e = let same : record { parameters = ps; result = result } ≡ sig = cc in ap (λ (s : Signature). Some s.parameters) same

call_parameters : (desc : Desc) (sig : Signature) → call_signature desc ≡ Some sig → kinds_of (parameters_of desc) ≡ Some sig.parameters
call_parameters (descs.Field ty) sig e = absurd cc
call_parameters (descs.Method params None) sig e = signature_parts None (kinds_of params) sig e
call_parameters (descs.Method params (Some ret)) sig e = go (type_kind ret) e where
  go : (kind : Option Kind) → signature_result kind (kinds_of params) ≡ Some sig → kinds_of params ≡ Some sig.parameters
  go None e = absurd cc
  go (Some kind) e = signature_parts (Some kind) (kinds_of params) sig e

static_parameters : (desc : Desc) (sig : Signature) → signature_of true desc ≡ Some sig → kinds_of (parameters_of desc) ≡ Some sig.parameters
static_parameters desc sig e = go (call_signature desc) refl e where
  go : (s : Option Signature) → call_signature desc ≡ s → with_receiver true s ≡ Some sig → kinds_of (parameters_of desc) ≡ Some sig.parameters
  go None is e = absurd cc
  go (Some inner) is e = call_parameters desc sig (is ∙ e)

instance_parameters : (desc : Desc) (sig : Signature) → signature_of false desc ≡ Some sig → (ps : List Kind) × (kinds_of (parameters_of desc) ≡ Some ps) × (kinds.Ref ∷ ps ≡ sig.parameters)
instance_parameters desc sig e = go (call_signature desc) refl e where
  go : (s : Option Signature) → call_signature desc ≡ s → with_receiver false s ≡ Some sig → (ps : List Kind) × (kinds_of (parameters_of desc) ≡ Some ps) × (kinds.Ref ∷ ps ≡ sig.parameters)
  go None is e = absurd cc
  go (Some inner) is e = let same : record inner { parameters = kinds.Ref ∷ inner.parameters } ≡ sig = cc in
      (inner.parameters, call_parameters desc inner is, ap (λ (s : Signature). s.parameters) same)

-- ---- an instruction that calls

module _ (program : Program) (prefix : Prefix) (is : IsSound program prefix) (terms : Terms) (own : Name) (signature : Signature) (code : Code) (m : Member) (k left : Kinds) (x : Part)
    (h : HasKinds x.locals x.operands k) (room : length x.locals ≡ code.max_locals) where
  abbrev Keeps_ : Mode → (List HostAnswer → Option Effect) → Type 0
  Keeps_ mode e = ((does : Effect) × (e x.answers ≡ Some does) × IsSoundFlow program signature code (Invoke mode m) k left does.part does.flow)
      ⊎ Waits program prefix terms x e

  abbrev answered_by : List HostAnswer → Part
  answered_by answers = record x { answers = answers }

  resolved_found : (static : Bool) (found : Option FoundMethod) → resolve_method program prefix m ≡ found → is_method_found static found ≡ true
      → (f : FoundMethod) × (resolve_method program prefix m ≡ Some f) × (is_static f.method.flags ≡ static)
  resolved_found static None e t = absurd cc
  resolved_found true (Some f) e t = (f, e, t)
  resolved_found false (Some f) e t = (f, e, not_true (is_static f.method.flags) t) where
    not_true : (b : Bool) → not b ≡ true → b ≡ false
    not_true true n = absurd cc
    not_true false n = refl

  signature_found : (s : Option Signature) → call_kinds code k s ≡ Some left → (sig : Signature) × (s ≡ Some sig) × (gives code k (reverse sig.parameters) sig.result ≡ Some left)
  signature_found None e = absurd cc
  signature_found (Some sig) e = (sig, refl, e)

  ready : (sig : Signature) (rest : List Value) (below : List Kind) → map value_kind rest ≡ below → given sig.result below ≡ left.stack → with_given sig.result (map value_kind rest) ≡ left.stack
  ready sig rest below is_below stack = ap (with_given sig.result) is_below ∙ (sym (given_same sig.result below) ∙ stack)

  static_sound : (sig : Signature) → signature_of true m.desc ≡ Some sig → same_name m.name initialiser_name ≡ false → (resolved : FoundMethod) → resolve_method program prefix m ≡ Some resolved
      → is_static resolved.method.flags ≡ true → Gives k x.operands (reverse sig.parameters) sig.result left → Keeps_ Static (λ answers. invoke program prefix terms own Static m (answered_by answers))
  unfolding invoke
  static_sound sig described named resolved found static g =
      let t = taken_parts (reverse sig.parameters) [] x.operands g.rest (subst (λ (l : List Kind). Takes l x.operands g.rest) (sym (append-nil (reverse sig.parameters))) g.takes) in
      let taken_is : arguments_of (kinds_of (parameters_of m.desc)) x.operands ≡ Some t.0 = ap (λ ps. arguments_of ps x.operands) (static_parameters m.desc sig described) ∙ t.1 in
      rw found (rw taken_is (static_call program prefix is terms own signature code Static m k left x h.locals room sig described named g.locals resolved
      (resolved_there program prefix m resolved found, static) t.0.values t.0.rest (parameters_of m.desc) (t.2 ∙ reverse-reverse sig.parameters) (ready sig t.0.rest g.rest t.3 g.stack)))

  instance_sound : (mode : Mode) → is_static_mode mode ≡ false → (sig : Signature) → signature_of (is_static_mode mode) m.desc ≡ Some sig → same_name m.name initialiser_name ≡ false
      → (resolved : FoundMethod) → resolve_method program prefix m ≡ Some resolved
      → is_static resolved.method.flags ≡ is_static_mode mode → Gives k x.operands (reverse sig.parameters) sig.result left → Keeps_ mode (λ answers. invoke program prefix terms own mode m (answered_by answers))
  unfolding invoke
  instance_sound mode instance sig described named resolved found static g =
      let p = instance_parameters m.desc sig (subst (λ (b : Bool). signature_of b m.desc ≡ Some sig) instance described) in
      let wanted : reverse sig.parameters ≡ reverse p.0 ++ kinds.Ref ∷ [] = ap reverse (sym p.2) ∙ reverse-append (kinds.Ref ∷ []) p.0 in
      let t = taken_parts (reverse p.0) (kinds.Ref ∷ []) x.operands g.rest (subst (λ (l : List Kind). Takes l x.operands g.rest) wanted g.takes) in
      let taken_is : arguments_of (kinds_of (parameters_of m.desc)) x.operands ≡ Some t.0 = ap (λ ps. arguments_of ps x.operands) p.1 ∙ t.1 in
      let takes_is : kinds.Ref ∷ map value_kind t.0.values ≡ sig.parameters = ap (λ l. kinds.Ref ∷ l) (t.2 ∙ reverse-reverse p.0) ∙ p.2 in
      rw found (rw taken_is (by_receiver mode instance described static t.0.values takes_is t.0.rest t.3)) where
        by_receiver : (mode : Mode) → is_static_mode mode ≡ false → signature_of (is_static_mode mode) m.desc ≡ Some sig → is_static resolved.method.flags ≡ is_static_mode mode
            → (args : List Value) → kinds.Ref ∷ map value_kind args ≡ sig.parameters → (operands : List Value) → Takes (kinds.Ref ∷ []) operands g.rest
            → Keeps_ mode (λ answers. call program prefix terms own mode (answered_by answers) resolved (parameters_of m.desc) args operands)
        by_receiver mode instance described static args takes [] t = absurd t
        by_receiver mode instance described static args takes (values.Int z ∷ below) t = absurd (let e = t.0 in cc)
        by_receiver mode instance described static args takes (values.Long z ∷ below) t = absurd (let e = t.0 in cc)
        by_receiver Static instance described static args takes (values.Ref r ∷ below) t = absurd cc
        by_receiver Special instance described static args takes (values.Ref r ∷ below) t =
            special_call program prefix is terms own signature code Special m k left x h.locals room sig described named g.locals resolved
            (resolved_there program prefix m resolved found, static) instance r args below (parameters_of m.desc) takes (ready sig below g.rest t.1 g.stack)
        by_receiver Virtual instance described static args takes (values.Ref r ∷ below) t =
            virtual_call program prefix is terms own signature code Virtual m k left x h.locals room sig described named g.locals resolved
            (resolved_there program prefix m resolved found, static) instance r args below (parameters_of m.desc) takes (ready sig below g.rest t.1 g.stack)
        by_receiver (Interface count) instance described static args takes (values.Ref r ∷ below) t =
            virtual_call program prefix is terms own signature code (Interface count) m k left x h.locals room sig described named g.locals resolved
            (resolved_there program prefix m resolved found, static) instance r args below (parameters_of m.desc) takes (ready sig below g.rest t.1 g.stack)

  pub call_keeps : (mode : Mode) → is_method_linked program prefix (is_static_mode mode) m ≡ true → after signature code (Invoke mode m) k ≡ Some left
      → Keeps_ mode (λ answers. invoke program prefix terms own mode m (answered_by answers))
  unfolding after
  call_keeps mode linked e =
      let counted = some_if (counts mode m.desc) (call_kinds code k (signature_of (is_static_mode mode) m.desc)) left e in
      let s = signature_found (signature_of (is_static_mode mode) m.desc) counted.1 in
      let g = gives_parts code k x.operands (reverse s.0.parameters) s.0.result left h.operands s.2 in
      let first = both_parts (is_class_of program m.class && not (same_name m.name initialiser_name)) (is_method_found (is_static_mode mode) (resolve_method program prefix m)) linked in
      let second = both_parts (is_class_of program m.class) (not (same_name m.name initialiser_name)) first.0 in
      let r = resolved_found (is_static_mode mode) (resolve_method program prefix m) refl first.1 in
      by mode s.0 s.1 (not_true (same_name m.name initialiser_name) second.1) r.0 r.1 r.2 g where
        not_true : (b : Bool) → not b ≡ true → b ≡ false
        not_true true n = absurd cc
        not_true false n = refl

        by : (mode : Mode) (sig : Signature) → signature_of (is_static_mode mode) m.desc ≡ Some sig → same_name m.name initialiser_name ≡ false
            → (resolved : FoundMethod) → resolve_method program prefix m ≡ Some resolved → is_static resolved.method.flags ≡ is_static_mode mode
            → Gives k x.operands (reverse sig.parameters) sig.result left → Keeps_ mode (λ answers. invoke program prefix terms own mode m (answered_by answers))
        by Static sig described named resolved found static g = static_sound sig described named resolved found static g
        by Special sig described named resolved found static g = instance_sound Special refl sig described named resolved found static g
        by Virtual sig described named resolved found static g = instance_sound Virtual refl sig described named resolved found static g
        by (Interface count) sig described named resolved found static g = instance_sound (Interface count) refl sig described named resolved found static g

-- ---- every instruction

is_call : (i : Instruction) → calls i ≡ true → (mode : Mode) × (m : Member) × (Invoke mode m ≡ i)
is_call (Invoke mode m) e = (mode, m, refl)
is_call Nop e = absurd cc
is_call (Push v) e = absurd cc
is_call (PushText units) e = absurd cc
is_call (Load kind slot) e = absurd cc
is_call (Store kind slot) e = absurd cc
is_call (Increment slot by) e = absurd cc
is_call (LoadElement access) e = absurd cc
is_call (StoreElement access) e = absurd cc
is_call (Move operation) e = absurd cc
is_call (Compute operation) e = absurd cc
is_call (Convert operation) e = absurd cc
is_call (Branch test target) e = absurd cc
is_call (Goto target) e = absurd cc
is_call (Switch pairs default) e = absurd cc
is_call (Return kind) e = absurd cc
is_call (GetStatic m) e = absurd cc
is_call (PutStatic m) e = absurd cc
is_call (GetField m) e = absurd cc
is_call (PutField m) e = absurd cc
is_call (New class) e = absurd cc
is_call (NewArray class element) e = absurd cc
is_call ArrayLength e = absurd cc
is_call Throw e = absurd cc
is_call (CheckCast class) e = absurd cc
is_call (InstanceOf class) e = absurd cc
is_call Monitor e = absurd cc
is_call (Other op named) e = absurd cc

call_sound : (program : Program) (prefix : Prefix) (terms : Terms) (own : Name) (signature : Signature) (code : Code) (mode : Mode) (m : Member) (k left : Kinds) (x : Part)
    → IsSound program prefix → IsTrue (is_linked program prefix (Invoke mode m)) → HasKinds x.locals x.operands k → length x.locals ≡ code.max_locals → after signature code (Invoke mode m) k ≡ Some left
    → HasSoundEffect program prefix terms own signature code (Invoke mode m) k left x ⊎ IsStarved program prefix terms own (Invoke mode m) x
unfolding is_linked effect
call_sound program prefix terms own signature code mode m k left x is linked h room e =
    elim (call_keeps program prefix is terms own signature code m k left x h room mode linked e) [
      | inl d ↦ inl (record { does = d.0; has = d.1; sound = d.2 })
      | inr w ↦ inr (record {
        calls = refl;
        class = w.class;
        method = w.method;
        id = w.id;
        there = w.there;
        body = w.body;
        arguments = w.arguments;
        rest = w.rest;
        question = w.question;
        asks = w.asked;
        does = w.does;
        unanswered = w.unanswered;
      })
    ]

pub kinds_kept : (program : Program) (prefix : Prefix) (terms : Terms) (own : Name) (signature : Signature) (code : Code) (i : Instruction) (k left : Kinds) (x : Part)
    → IsSound program prefix → IsTrue (is_linked program prefix i) → HasKinds x.locals x.operands k → length x.locals ≡ code.max_locals → after signature code i k ≡ Some left
    → HasSoundEffect program prefix terms own signature code i k left x ⊎ IsStarved program prefix terms own i x
kinds_kept program prefix terms own signature code i k left x is linked h room e = elim (either (calls i)) [
  | inl call ↦ let c = is_call i call in
      subst (λ (j : Instruction). HasSoundEffect program prefix terms own signature code j k left x ⊎ IsStarved program prefix terms own j x) c.2
      (call_sound program prefix terms own signature code c.0 c.1 k left x is
      (subst (λ (j : Instruction). IsTrue (is_linked program prefix j)) (sym c.2) linked) h room (subst (λ (j : Instruction). after signature code j k ≡ Some left) (sym c.2) e))
  | inr not_call ↦ inl (sound_effect program prefix terms own signature code k left x h room i not_call linked e)
]
