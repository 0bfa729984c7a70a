-- A class whose way upward ends has the class at the end in its chain, where the program has no more classes than a chain has levels.
use Rattle.std.proofs.Common.{◌≡◌, ℕ, zero, suc, ◌<◌, ◌≤◌, ◌⊎◌, Bool, true, false, ◌||◌, List, map, length, Option, Some, None, Contains, refl, sym, ap, ◌∙◌, subst, inl, inr, arith}
use Rattle.std.proofs.lemmas.List.{length-map}
use Rattle.std.proofs.lemmas.Option.{same_Some}
use Rattle.dj_names.specs.trusted.Types.{Name, same_name}
use Rattle.dj_model.specs.trusted.Program.{Program, Class, class_at, superclass_of}
use Rattle.dj_model.specs.trusted.Linking.{most_classes, chain_of, chain, is_among}
use Rattle.dj_model.specs.Sound.{ReachesTop, top, below}
use Rattle.dj_model.proofs.SoundLinks.{class_contained}
use Rattle.dj_class_table.specs.Tables.{name_of}
use Rattle.dj_class_table.proofs.Orders.{same_from_names}
use Rattle.dj_loader.proofs.Lists.{member_mapped}
use Rattle.dj_sound.proofs.Ends.{without, shorter, kept}

-- ---- ways upward

module _ (program : Program) where
  -- how many classes are above
  abbrev depth : {name : Name} → ReachesTop program name → ℕ
  depth (top class c at none) = 0
  depth (below class above c at next more) = suc (depth more)

  -- the name is one of those on the way
  abbrev IsOn : {name : Name} → ReachesTop program name → Name → Type 0
  IsOn (top class c at none) other = other ≡ class
  IsOn (below class above c at next more) other = (other ≡ class) ⊎ IsOn more other

  super_is : (name other : Name) (c d : Class) → name ≡ other → class_at program name ≡ Some c → class_at program other ≡ Some d → c.superclass ≡ d.superclass
  super_is name other c d same at there = ap superclass_of (sym at ∙ (ap (class_at program) same ∙ there))

  one_depth : (name other : Name) → name ≡ other → (a : ReachesTop program name) (b : ReachesTop program other) → depth a ≡ depth b
  one_depth name other same (top class c at none) (top d_class d there others) = refl
  one_depth name other same (top class c at none) (below d_class above d there next more) =
      let never : None ≡ Some above = sym none ∙ (super_is class d_class c d same at there ∙ next) in absurd cc
  one_depth name other same (below class above c at next more) (top d_class d there none) =
      let never : Some above ≡ None = sym next ∙ (super_is class d_class c d same at there ∙ none) in absurd cc
  one_depth name other same (below class above c at next more) (below d_class d_above d there d_next d_more) =
      let up : above ≡ d_above = same_Some above d_above (sym next ∙ (super_is class d_class c d same at there ∙ d_next)) in
      ap suc (one_depth above d_above up more d_more)

  -- a way from each name on it
  way_from : (name other : Name) (r : ReachesTop program name) → IsOn r other → (n : Name) × (n ≡ other) × (s : ReachesTop program n) × (depth s ≤ depth r)
  way_from name other (top class c at none) on = (class, sym on, top class c at none, omega arith)
  way_from name other (below class above c at next more) (inl same) = (class, sym same, below class above c at next more, omega arith)
  way_from name other (below class above c at next more) (inr on) =
      let (n, is, s, le) = way_from above other more on in (n, is, s, omega (arith, le))

  -- none comes twice
  not_above : (class above : Name) (c : Class) (at : class_at program class ≡ Some c) (next : c.superclass ≡ Some above) (more : ReachesTop program above) → IsOn more class → ⊥
  not_above class above c at next more on =
      let (n, is, s, le) = way_from above class more on in
      let same : depth s ≡ suc (depth more) = one_depth n class is s (below class above c at next more) in
      omega (arith, le, same)

  -- so a way is no longer than a list with all names on it
  within : (name : Name) (r : ReachesTop program name) (rest : List Name) → ((other : Name) → IsOn r other → Contains rest other) → depth r < length rest
  within name (top class c at none) rest on = let m = on class refl in omega (arith, m.1)
  within name (below class above c at next more) rest on =
      let lt = shorter class rest (on class (inl refl)) in
      let up = within above more (without class rest) (λ other later.
      kept class other rest (on other (inr later)) (λ same. not_above class above c at next more (subst (IsOn more) same later))) in
      omega (arith, lt, up)

  on_named : (class other : Name) (c : Class) → class_at program class ≡ Some c → other ≡ class → Contains (map name_of program) other
  on_named class other c at same =
      let (m, named) = class_contained program class c at in
      subst (Contains (map name_of program)) (named ∙ sym same) (member_mapped name_of program c m)

  on_there : (name other : Name) (r : ReachesTop program name) → IsOn r other → Contains (map name_of program) other
  on_there name other (top class c at none) on = on_named class other c at on
  on_there name other (below class above c at next more) (inl same) = on_named class other c at same
  on_there name other (below class above c at next more) (inr on) = on_there above other more on

  few_above : (name : Name) (r : ReachesTop program name) → depth r < length program
  few_above name r =
      let lt = within name r (map name_of program) (λ other on. on_there name other r on) in
      let same = length-map program name_of in
      omega (arith, lt, same)

  -- ---- chains

  module _ (last : Name) (tops : (c : Class) → Contains program c → c.superclass ≡ None → c.name ≡ last) where
    or_first : (a b : Bool) → a ≡ true → (a || b) ≡ true
    or_first true b e = refl
    or_first false b e = absurd cc

    or_later : (a b : Bool) → b ≡ true → (a || b) ≡ true
    or_later true b e = refl
    or_later false b e = e

    reached : (n : ℕ) (name : Name) (r : ReachesTop program name) → depth r < n → is_among (chain_of n program (Some name)) last ≡ true
    unfolding chain_of
    reached zero name r lt = absurd (omega (arith, lt))
    reached (suc n) name (top class c at none) lt =
        let (m, named) = class_contained program class c at in
        let is : same_name last class ≡ true = same_from_names last class (sym (tops c m none) ∙ named) in
        or_first (same_name last class) (is_among (chain_of n program (superclass_of (class_at program class))) last) is
    reached (suc n) name (below class above c at next more) lt =
        let later = reached n above more (omega (arith, lt)) in
        let up : superclass_of (class_at program class) ≡ Some above = ap superclass_of at ∙ next in
        or_later (same_name last class) (is_among (chain_of n program (superclass_of (class_at program class))) last)
        (ap (λ (o : Option Name). is_among (chain_of n program o) last) up ∙ later)

    pub chain_reaches : length program ≤ most_classes → (name : Name) → ReachesTop program name → is_among (chain program name) last ≡ true
    chain_reaches few name r = let lt = few_above name r in reached most_classes name r (omega (arith, few, lt))
