-- Where the initialisation before an instruction changes nothing, the class that it uses was initialised before.
use Rattle.std.proofs.Common.{◌≡◌, ◌<◌, ◌+◌, ◌^◌, ℕ, zero, suc, Bool, true, false, List, [], ◌∷◌, ◌++◌, length, reverse, Option, Some, None, nat_lt, refl, sym, ap, subst, ◌∙◌, inl, inr, arith, if◌then◌else◌}
use Rattle.std.specs.List.{AllByRecursion}
use Rattle.std.proofs.lemmas.Bool.{false≢true}
use Rattle.std.proofs.lemmas.Grind.{reverse_onto}
use Rattle.dj_names.specs.trusted.Types.{Name}
use Rattle.dj_model.specs.trusted.Types.{Declared, Prefix}
use Rattle.dj_model.specs.trusted.Program.{Program}
use Rattle.dj_model.specs.trusted.Linking.{chain, chain_of, most_classes}
use Rattle.dj_model.specs.trusted.State.{Frame, State, Terms}
use Rattle.dj_model.specs.trusted.Initialisation.{Initialised, Ready, Waits, Fails, constants_of, initialise, initialiser_frames, is_initialised, mark, mark_all, most_frames, not_initialised, then_ready, with_frames}
use Rattle.dj_names.specs.declared.run.Outcome.TheVariants as outcomes
use Rattle.dj_model.proofs.Frames.{KeepsMore, all_constants_keep, marked}
use Rattle.dj_model.proofs.MappedNames.{either}
use Rattle.dj_model.proofs.Once.{not_yet}

-- the flags of those that weren't initialised are set
ready_flags : (program : Program) (prefix : Prefix) (terms : Terms) (class : Name) (s t : State) → initialise program prefix terms class s ≡ Ready t
    → t.initialised ≡ mark_all program (reverse (not_initialised program s.initialised (chain program class))) s.initialised
unfolding initialise KeepsMore
ready_flags program prefix terms class s t e = by (constants_of program prefix terms classes begun) (all_constants_keep program prefix terms classes begun) e where
  classes : List Name
  classes = reverse (not_initialised program s.initialised (chain program class))

  begun : State
  begun = record s { initialised = mark_all program classes s.initialised }

  no_frames : (next : State) (frames : List (Frame Declared)) → with_frames next frames ≡ Ready t → t.initialised ≡ next.initialised
  no_frames next [] e = let same : next ≡ t = cc in ap (λ (x : State). x.initialised) (sym same)
  no_frames next (f ∷ frames) e = deep (nat_lt most_frames (length (f ∷ frames) + length next.frames)) e where
    deep : (b : Bool) → (if b then Fails outcomes.TooDeep next else Waits (record next { frames = f ∷ frames ++ next.frames })) ≡ Ready t → t.initialised ≡ next.initialised
    deep true e = absurd cc
    deep false e = absurd cc

  by : (i : Initialised) → KeepsMore begun i → then_ready (λ next. with_frames next (initialiser_frames program classes)) i ≡ Ready t → t.initialised ≡ begun.initialised
  by (Ready next) keeps e = no_frames next (initialiser_frames program classes) e ∙ keeps.1
  by (Waits next) keeps e = absurd keeps
  by (Fails outcome next) keeps e = absurd cc

mark_last : (program : Program) (classes : List Name) (class : Name) (flags : List Bool) → mark_all program (classes ++ class ∷ []) flags ≡ mark program class (mark_all program classes flags)
mark_last program [] class flags = refl
mark_last program (other ∷ classes) class flags = mark_last program classes class (mark program other flags)

-- where that changes none, none was to be set
none_set : (program : Program) (flags : List Bool) (classes : List Name) → flags ≡ mark_all program (reverse (not_initialised program flags classes)) flags → not_initialised program flags classes ≡ []
none_set program flags classes same = by (not_initialised program flags classes) refl where
  by : (names : List Name) → not_initialised program flags classes ≡ names → not_initialised program flags classes ≡ []
  by [] e = e
  by (class ∷ names) e =
      let last : flags ≡ mark program class (mark_all program (reverse names) flags) =
      same ∙ (ap (λ (l : List Name). mark_all program (reverse l) flags) e
      ∙ (ap (λ (l : List Name). mark_all program l flags) (reverse_onto names class []) ∙ mark_last program (reverse names) class flags)) in
      let set : is_initialised program flags class ≡ true =
      ap (λ (fs : List Bool). is_initialised program fs class) last ∙ marked program class (mark_all program (reverse names) flags) in
      let unset : is_initialised program flags class ≡ false =
      (subst (AllByRecursion (λ (other : Name). is_initialised program flags other ≡ false)) e (not_yet program flags classes)).0 in
      absurd (false≢true (sym unset ∙ set))

-- the first of them is set
first_set : (program : Program) (flags : List Bool) (class : Name) (classes : List Name) → not_initialised program flags (class ∷ classes) ≡ [] → is_initialised program flags class ≡ true
first_set program flags class classes e = elim (either (is_initialised program flags class)) [
  | inl set ↦ set
  | inr unset ↦ absurd (let some : class ∷ not_initialised program (mark program class flags) classes ≡ [] = rw unset at e in cc)
]

many : 0 < most_classes
unfolding most_classes
many = omega arith

chain_first : (program : Program) (class : Name) → (classes : List Name) × (chain program class ≡ class ∷ classes)
unfolding chain_of
chain_first program class = by most_classes refl where
  by : (n : ℕ) → most_classes ≡ n → (classes : List Name) × (chain_of n program (Some class) ≡ class ∷ classes)
  by zero e = absurd (let more = many in omega (arith, e, more))
  by (suc n) e = (_, refl)

pub ready_initialised : (program : Program) (prefix : Prefix) (terms : Terms) (class : Name) (s t : State) → initialise program prefix terms class s ≡ Ready t → t.initialised ≡ s.initialised
    → is_initialised program s.initialised class ≡ true
ready_initialised program prefix terms class s t ready same =
    let first = chain_first program class in
    let none = none_set program s.initialised (chain program class) (sym same ∙ ready_flags program prefix terms class s t ready) in
    first_set program s.initialised class first.0 (ap (not_initialised program s.initialised) (sym first.1) ∙ none)
