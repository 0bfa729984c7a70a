-- Readers of one token, and of what a first token begins.
use Rattle.std.proofs.Common.{◌≡◌, ◌↔◌, Bool, true, false, cond, List, [], ◌∷◌, ◌++◌, drop, Option, Some, None, refl, sym, ap, ◌∙◌, subst, true≢false}
use Rattle.dj_cursor.proofs.Options.{some_is}
use Rattle.dj_asm_tokens.specs.trusted.Words.{Token, Placed}
use Rattle.dj_asm_source.specs.trusted.Items.{Item, Says}
use Rattle.dj_asm_source.specs.Reading.{Read, Got, Wrong, Large, Reader, said_by, one, begun, choose}
use Rattle.dj_asm_source.proofs.Readers.{Lang, Said, Started, Allowed, GotFrom, and_on, WrongFrom, LargeFrom, ReadFrom, IsReader}

-- ---- lists

pub head_same : (x y : Placed) (xs ys : List Placed) → x ∷ xs ≡ y ∷ ys → x ≡ y
head_same x y xs ys e = cc

pub tail_same : (x y : Placed) (xs ys : List Placed) → x ∷ xs ≡ y ∷ ys → xs ≡ ys
tail_same x y xs ys e = cc

pub no_nil : (x : Placed) (xs : List Placed) → x ∷ xs ≡ [] → ⊥
no_nil x xs e = absurd cc

-- ---- one token

abbrev pub single : {A : Type 0} → (A → Item) → (A → Type 0) → (A → Type 0) → Lang A
single item is fits = record { items = λ a. item a ∷ []; is = is; fits = fits }

-- a test on tokens answers what they say
pub record IsReported {A : Type 0} (item : A → Item) (is : A → Type 0) (says : Token → Option A) : Type 0 where
  pub sound : (token : Token) (a : A) → says token ≡ Some a → is a × Says (item a) token
  pub whole : (token : Token) (a : A) → is a → Says (item a) token → says token ≡ Some a

pub record IsInhabited {A : Type 0} (item : A → Item) (is fits : A → Type 0) : Type 0 where
  pub value : A
  pub token : Token
  pub allowed : is value
  pub sized : fits value
  pub said : Says (item value) token

abbrev pub place : Token → Placed
place token = record { line = 0; column = 0; token = token }

module _ {A : Type 0} (item : A → Item) (is fits : A → Type 0) (says : Token → Option A) (test : A → Bool)
    (reported : IsReported item is says) (decides : (a : A) → (test a ≡ true) ↔ fits a) (some : IsInhabited item is fits) where
  abbrev L : Lang A
  L = single item is fits

  -- who is said by one token
  reported_at : (b : A) (here : Placed) (us more after : List Placed) → is b → Said (item b ∷ []) us → us ++ more ≡ here ∷ after → (says here.token ≡ Some b) × (more ≡ after)
  reported_at b here [] more after i said e = absurd said
  reported_at b here (u ∷ []) more after i said e =
      (reported.whole here.token b i (subst (λ (p : Placed). Says (item b) p.token) (head_same u here more after e) said.0), tail_same u here more after e)
  reported_at b here (u ∷ v ∷ us) more after i said e = absurd said.1

  none_of_nil : (b : A) (us more : List Placed) → Said (item b ∷ []) us → us ++ more ≡ [] → ⊥
  none_of_nil b [] more said e = said
  none_of_nil b (u ∷ us) more said e = no_nil u (us ++ more) e

  one_started : Started L []
  one_started = record { value = some.value; is = some.allowed; fits = some.sized; more = place some.token ∷ []; said = (some.said, tt) }

  one_got : (here : Placed) (rest : List Placed) (a : A) → says here.token ≡ Some a → test a ≡ true → GotFrom L (here ∷ rest) a rest
  one_got here rest a e fit = record {
    prefix = here ∷ [];
    parts = refl;
    is = (reported.sound here.token a e).0;
    fits = (decides a).0 fit;
    said = ((reported.sound here.token a e).1, tt);
    unique = λ b us more after i said same. let t = reported_at b here us more after i said same in (some_is b a (sym t.0 ∙ e), t.1);
  }

  one_large : (here : Placed) (rest : List Placed) (a : A) → says here.token ≡ Some a → test a ≡ false → LargeFrom L (here ∷ rest) (here ∷ rest)
  one_large here rest a e unfit = record {
    prefix = [];
    here = here;
    others = rest;
    rest_is = refl;
    parts = refl;
    good = one_started;
    some = record { value = a; is = (reported.sound here.token a e).0; more = []; said = ((reported.sound here.token a e).1, tt) };
    none = λ b us more after i fit said same.
        let t = reported_at b here us more after i said same in
        let equal = some_is b a (sym t.0 ∙ e) in
        true≢false (sym ((decides b).1 fit) ∙ (ap test equal ∙ unfit));
  }

  one_wrong : (here : Placed) (rest : List Placed) → says here.token ≡ None → WrongFrom L (here ∷ rest) (here ∷ rest)
  one_wrong here rest e = record {
    prefix = [];
    parts = refl;
    good = one_started;
    none = λ b us more after i said same. let t = reported_at b here us more after i said same in absurd cc (e, t.0);
  }

  by_test : (here : Placed) (rest : List Placed) (a : A) (b : Bool) → says here.token ≡ Some a → test a ≡ b → ReadFrom L (here ∷ rest) (cond b (Got a rest) (Large (here ∷ rest)))
  by_test here rest a true e t = one_got here rest a e t
  by_test here rest a false e t = one_large here rest a e t

  by_token : (here : Placed) (rest : List Placed) (o : Option A) → says here.token ≡ o → ReadFrom L (here ∷ rest) (said_by test o here rest)
  by_token here rest None e = one_wrong here rest e
  by_token here rest (Some a) e = by_test here rest a (test a) e refl

  one_each : (tokens : List Placed) → ReadFrom L tokens (one says test tokens)
  one_each [] = record { prefix = []; parts = refl; good = one_started; none = λ b us more after i said e. none_of_nil b us more said e }
  one_each (here ∷ rest) = by_token here rest (says here.token) refl

  pub one_reads : IsReader L (one says test)
  one_reads = record { some = one_started; each = one_each }

-- ---- by a first token

-- the language of what stands after the first token
abbrev pub after_first : {K A : Type 0} → Lang A → (K → A → Type 0) → K → Lang A
after_first N P k = record { items = λ a. drop 1 (N.items a); is = P k; fits = N.fits }

-- such an item stands first
abbrev pub HasFirst : {A : Type 0} → Lang A → Item → A → Type 0
HasFirst N item a = N.items a ≡ item ∷ drop 1 (N.items a)

pub record IsChoice {K A : Type 0} (N : Lang A) (P : K → A → Type 0) (first : K → Item) (begins : Token → Option K) : Type 0 where
  pub sound : (token : Token) (k : K) → begins token ≡ Some k → Says (first k) token
  pub whole : (token : Token) (k : K) (a : A) → P k a → Says (first k) token → begins token ≡ Some k
  pub kind : (a : A) → N.is a → (k : K) × P k a
  pub is : (k : K) (a : A) → P k a → N.is a
  pub items : (k : K) (a : A) → P k a → HasFirst N (first k) a

module _ {K A : Type 0} (N : Lang A) (P : K → A → Type 0) (first : K → Item) (begins : Token → Option K) (choice : IsChoice N P first begins) where
  -- what is said with a first token
  record At (a : A) (here : Placed) (us : List Placed) : Type 0 where
    k : K
    begun : begins here.token ≡ Some k
    is : P k a
    others : List Placed
    parts : us ≡ here ∷ others
    said : Said (drop 1 (N.items a)) others

  at : (a : A) (here : Placed) (us more after : List Placed) → N.is a → Said (N.items a) us → us ++ more ≡ here ∷ after → At a here us
  at a here us more after i said e =
      let d = choice.kind a i in
      from d.0 d.1 us (subst (λ items. Said items us) (choice.items d.0 a d.1) said) e where
        from : (k : K) (p : P k a) (us : List Placed) → Said (first k ∷ drop 1 (N.items a)) us → us ++ more ≡ here ∷ after → At a here us
        from k p [] said e = absurd said
        from k p (u ∷ us) (reported, said) e =
            let same : u ≡ here = head_same u here (us ++ more) after e in
            record {
              k = k;
              begun = choice.whole here.token k a p (subst (λ (t : Placed). Says (first k) t.token) same reported);
              is = p;
              others = us;
              parts = ap (λ t. t ∷ us) same;
              said = said;
            }

  no_empty : (a : A) (us more : List Placed) → N.is a → Said (N.items a) us → us ++ more ≡ [] → ⊥
  no_empty a us more i said e = let d = choice.kind a i in from d.0 d.1 us (subst (λ items. Said items us) (choice.items d.0 a d.1) said) e where
    from : (k : K) (p : P k a) (us : List Placed) → Said (first k ∷ drop 1 (N.items a)) us → us ++ more ≡ [] → ⊥
    from k p [] said e = said
    from k p (u ∷ us) said e = no_nil u (us ++ more) e

  module _ (here : Placed) (rest : List Placed) (k : K) (is_begun : begins here.token ≡ Some k) where
    abbrev M : Lang A
    M = after_first N P k

    with_first : (a : A) (us : List Placed) → P k a → Said (drop 1 (N.items a)) us → Said (N.items a) (here ∷ us)
    with_first a us p said = subst (λ items. Said items (here ∷ us)) (sym (choice.items k a p)) (choice.sound here.token k is_begun, said)

    -- it is of this kind, and what is said after the first token
    pub of_kind : (a : A) (us more after : List Placed) → N.is a → Said (N.items a) us → us ++ more ≡ here ∷ after
        → (others : List Placed) × P k a × Said (drop 1 (N.items a)) others × (others ++ more ≡ after)
    of_kind a us more after i said e =
        let q = at a here us more after i said e in
        let same : q.k ≡ k = some_is q.k k (sym q.begun ∙ is_begun) in
        let whole : here ∷ (q.others ++ more) ≡ here ∷ after = ap (λ ts. ts ++ more) (sym q.parts) ∙ e in
        (q.others, subst (λ j. P j a) same q.is, q.said, tail_same here here (q.others ++ more) after whole)

    pub kind_started : (us : List Placed) → Started M us → Started N (here ∷ us)
    kind_started us s = record { value = s.value; is = choice.is k s.value s.is; fits = s.fits; more = s.more; said = with_first s.value (us ++ s.more) s.is s.said }

    kind_allowed : (us : List Placed) → Allowed M us → Allowed N (here ∷ us)
    kind_allowed us s = record { value = s.value; is = choice.is k s.value s.is; more = s.more; said = with_first s.value (us ++ s.more) s.is s.said }

    pub kind_read : (x : Read A) → ReadFrom M rest x → ReadFrom N (here ∷ rest) x
    kind_read (Got a others) g = record {
      prefix = here ∷ g.prefix;
      parts = ap (λ ts. here ∷ ts) g.parts;
      is = choice.is k a g.is;
      fits = g.fits;
      said = with_first a g.prefix g.is g.said;
      unique = λ b us more after i said e. let o = of_kind b us more (g.prefix ++ after) i said e in g.unique b o.0 more after o.1 o.2 o.3;
    }
    kind_read (Wrong others) w = record {
      prefix = here ∷ w.prefix;
      parts = ap (λ ts. here ∷ ts) w.parts;
      good = kind_started w.prefix w.good;
      none = λ b us more after i said e. let o = of_kind b us more (w.prefix ++ and_on others after) i said e in w.none b o.0 more after o.1 o.2 o.3;
    }
    kind_read (Large others) w = record {
      prefix = here ∷ w.prefix;
      here = w.here;
      others = w.others;
      rest_is = w.rest_is;
      parts = ap (λ ts. here ∷ ts) w.parts;
      good = kind_started w.prefix w.good;
      some = kind_allowed (w.prefix ++ w.here ∷ []) w.some;
      none = λ b us more after i fit said e. let o = of_kind b us more (w.prefix ++ w.here ∷ after) i said e in w.none b o.0 more after o.1 fit o.2 o.3;
    }

  pub none_begun : Started N [] → (here : Placed) (rest : List Placed) → begins here.token ≡ None → WrongFrom N (here ∷ rest) (here ∷ rest)
  none_begun some here rest e = record {
    prefix = [];
    parts = refl;
    good = some;
    none = λ b us more after i said same. let q = at b here us more after i said same in absurd cc (e, q.begun);
  }

  pub nothing_left : Started N [] → WrongFrom N [] []
  nothing_left some = record { prefix = []; parts = refl; good = some; none = λ b us more after i said e. no_empty b us more i said e }

  module _ (next : K → Reader A) (some : Started N []) (each : (token : Token) (k : K) → begins token ≡ Some k → IsReader (after_first N P k) (next k)) where
    by_first : (here : Placed) (rest : List Placed) (o : Option K) → begins here.token ≡ o → ReadFrom N (here ∷ rest) (begun o next here rest)
    by_first here rest None e = none_begun some here rest e
    by_first here rest (Some k) e = kind_read here rest k e (next k rest) ((each here.token k e).each rest)

    choose_each : (tokens : List Placed) → ReadFrom N tokens (choose begins next tokens)
    choose_each [] = nothing_left some
    choose_each (here ∷ rest) = by_first here rest (begins here.token) refl

    pub choose_reads : IsReader N (choose begins next)
    choose_reads = record { some = some; each = choose_each }
