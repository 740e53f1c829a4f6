-- Lists of pairs from two lists.
use Rattle.std.proofs.Common.{◌≡◌, ℕ, zero, suc, ◌-◌, ◌<◌, List, [], ◌∷◌, ◌++◌, length, get_or, take, drop, refl, sym, ap, ◌∙◌, arith, Some}
use Rattle.std.specs.List.{zip, splice, slice_get}
use Rattle.std.proofs.Common.{length-take}
use Rattle.std.proofs.lemmas.List.{get_or_read, take_rest}
use Rattle.squall_blocks.specs.Entries.{ends_of}

pub length-zip : {V : Type 0} (ks : List ℕ) (vs : List V) → length ks ≡ length vs → length (zip ks vs) ≡ length ks
length-zip [] vs e = refl
length-zip (k ∷ ks) [] e = absurd (omega arith)
length-zip (k ∷ ks) (v ∷ vs) e = ap suc (length-zip ks vs (omega arith))

pub ends_of-zip : {V : Type 0} (ks : List ℕ) (vs : List V) → length ks ≡ length vs → ends_of (zip ks vs) ≡ ks
ends_of-zip [] vs e = refl
ends_of-zip (k ∷ ks) [] e = absurd (omega arith)
ends_of-zip (k ∷ ks) (v ∷ vs) e = ap (λ l. k ∷ l) (ends_of-zip ks vs (omega arith))

pub zip-append : {V : Type 0} (ks js : List ℕ) (vs ws : List V) → length ks ≡ length vs → zip (ks ++ js) (vs ++ ws) ≡ zip ks vs ++ zip js ws
zip-append [] js [] ws e = refl
zip-append [] js (v ∷ vs) ws e = absurd (omega arith)
zip-append (k ∷ ks) js [] ws e = absurd (omega arith)
zip-append (k ∷ ks) js (v ∷ vs) ws e = ap (λ l. (k, v) ∷ l) (zip-append ks js vs ws (omega arith))

pub zip-take : {V : Type 0} (n : ℕ) (ks : List ℕ) (vs : List V) → zip (take n ks) (take n vs) ≡ take n (zip ks vs)
zip-take zero ks vs = refl
zip-take (suc n) [] vs = refl
zip-take (suc n) (k ∷ ks) [] = refl
zip-take (suc n) (k ∷ ks) (v ∷ vs) = ap (λ l. (k, v) ∷ l) (zip-take n ks vs)

zip-nil : {V : Type 0} (ks : List ℕ) → zip {X = V} ks [] ≡ []
zip-nil [] = refl
zip-nil (k ∷ ks) = refl

pub zip-drop : {V : Type 0} (n : ℕ) (ks : List ℕ) (vs : List V) → zip (drop n ks) (drop n vs) ≡ drop n (zip ks vs)
zip-drop zero ks vs = refl
zip-drop (suc n) [] vs = refl
zip-drop (suc n) (k ∷ ks) [] = zip-nil (drop n ks)
zip-drop (suc n) (k ∷ ks) (v ∷ vs) = zip-drop n ks vs

pub zip-at : {V : Type 0} (ks : List ℕ) (vs : List V) (i : ℕ) (v : V) → length ks ≡ length vs → i < length ks → slice_get (zip ks vs) i ≡ Some (get_or ks i 0, get_or vs i v)
zip-at [] vs i w e lt = absurd (omega arith)
zip-at (k ∷ ks) [] i w e lt = absurd (omega arith)
zip-at (k ∷ ks) (v ∷ vs) zero w e lt = refl
zip-at (k ∷ ks) (v ∷ vs) (suc i) w e lt = zip-at ks vs i w (omega arith) (omega arith)

-- what two reads give
pub zip-read : {V : Type 0} (ks : List ℕ) (vs : List V) (i x : ℕ) (y : V) → length ks ≡ length vs → i < length ks → x ≡ get_or ks i x → y ≡ get_or vs i y → slice_get (zip ks vs) i ≡ Some (x, y)
zip-read ks vs i x y e lt p q =
    let first : get_or ks i 0 ≡ x = sym (get_or_read ks i x lt p 0) in
    let second : get_or vs i y ≡ y = sym q in
    zip-at ks vs i y e lt ∙ (λ j. Some (first j, second j))

pub zip-push : {V : Type 0} (ks ks' : List ℕ) (vs vs' : List V) (k : ℕ) (v : V) (es : List (ℕ × V)) → length ks ≡ length vs → zip ks vs ≡ es → ks' ≡ ks ++ k ∷ [] → vs' ≡ vs ++ v ∷ [] → zip ks' vs' ≡ es ++ (k, v) ∷ []
zip-push ks ks' vs vs' k v es e is p q =
    (λ j. zip (p j) (q j)) ∙ zip-append ks (k ∷ []) vs (v ∷ []) e ∙ ap (λ l. l ++ (k, v) ∷ []) is

pub zip-joined : {V : Type 0} (hk fk tk ks : List ℕ) (hv fv tv vs : List V) (h f t : List (ℕ × V)) (to from : ℕ) → length hk ≡ length h → length hv ≡ length h → length fk ≡ length f → length fv ≡ length f
    → zip hk hv ≡ h → zip fk fv ≡ f → zip tk tv ≡ t → ks ≡ take to hk ++ (fk ++ take (length tk - from) (drop from tk)) → vs ≡ take to hv ++ (fv ++ take (length tv - from) (drop from tv)) → zip ks vs ≡ take to h ++ (f ++ drop from t)
zip-joined hk fk tk ks hv fv tv vs h f t to from a b c d hz fz tz p q =
    let lf : length fk ≡ length fv = omega (arith, c, d) in
    let lh : length (take to hk) ≡ length (take to hv) = omega (arith, a, b, length-take to hk, length-take to hv) in
    (λ j. zip ((p ∙ ap (λ l. take to hk ++ (fk ++ l)) (take_rest tk from)) j) ((q ∙ ap (λ l. take to hv ++ (fv ++ l)) (take_rest tv from)) j))
    ∙ zip-append (take to hk) (fk ++ drop from tk) (take to hv) (fv ++ drop from tv) lh
    ∙ (λ j. (zip-take to hk hv ∙ ap (take to) hz) j ++ (zip-append fk (drop from tk) fv (drop from tv) lf ∙ (λ i. fz i ++ (zip-drop from tk tv ∙ ap (drop from) tz) i)) j)

pub zip-part : {V : Type 0} (ks js : List ℕ) (vs ws : List V) (es : List (ℕ × V)) (n from : ℕ) → zip ks vs ≡ es → js ≡ take n (drop from ks) → ws ≡ take n (drop from vs) → zip js ws ≡ take n (drop from es)
zip-part ks js vs ws es n from e p q = (λ j. zip (p j) (q j)) ∙ zip-take n (drop from ks) (drop from vs) ∙ ap (take n) (zip-drop from ks vs ∙ ap (drop from) e)

pub ends_of-lists : {V : Type 0} (ks : List ℕ) (vs : List V) (es : List (ℕ × V)) → length ks ≡ length es → length vs ≡ length es → zip ks vs ≡ es → ends_of es ≡ ks
ends_of-lists ks vs es a b e = ap ends_of (sym e) ∙ ends_of-zip ks vs (omega (arith, a, b))

pub zip-splice : {V : Type 0} (ks fk ks' : List ℕ) (vs fv vs' : List V) (es f : List (ℕ × V)) (m n : ℕ) → length ks ≡ length vs → zip ks vs ≡ es → length fk ≡ length f → length fv ≡ length f → zip fk fv ≡ f
    → ks' ≡ splice ks m n fk → vs' ≡ splice vs m n fv → zip ks' vs' ≡ splice es m n f
zip-splice ks fk ks' vs fv vs' es f m n e z a b fz p q =
    let lf : length fk ≡ length fv = omega (arith, a, b) in
    let lh : length (take m ks) ≡ length (take m vs) = omega (arith, e, length-take m ks, length-take m vs) in
    (λ j. zip (p j) (q j))
    ∙ zip-append (take m ks) (fk ++ drop n ks) (take m vs) (fv ++ drop n vs) lh
    ∙ (λ j. (zip-take m ks vs ∙ ap (take m) z) j ++ (zip-append fk (drop n ks) fv (drop n vs) lf ∙ (λ i. fz i ++ (zip-drop n ks vs ∙ ap (drop n) z) i)) j)
