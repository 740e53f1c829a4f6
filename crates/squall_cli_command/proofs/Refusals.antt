-- Why a command line is refused.
use Rattle.std.proofs.Common.{◌≡◌, ◌∙◌, ◌||◌, List, [], ◌∷◌, Bool, true, false, Result, Ok, Err, refl, ap, sym, subst, inl, inr}
use Rattle.std.specs.Prelude.{IfOk, IsTrue, ◌↔◌, ◌≢◌, ◌⊎◌, not, Option}
use Rattle.std.specs.List.{list_any}
use Rattle.std.specs.declared.alloc.AllocError.{AllocError}
use Rattle.clap.specs.Words.{App, Row, Text, Kinds, IsAmong, HasKind, fault_of, is_simple, is_simple_and_free, subcommand_of, kind_of}
use Rattle.clap.specs.declared.error.Error.{Error}
use Rattle.clap.specs.declared.error.kind.ErrorKind.{ErrorKind}
use Rattle.clap.specs.declared.error.kind.ErrorKind.TheVariants as kind
use Rattle.clap.proofs.OnLiterals.{clap_on_literals}
use Rattle.squall_cli_command.specs.declared.task.LineFault.{LineFault}
use Rattle.squall_cli_command.specs.declared.task.LineFault.TheVariants.{Help, Bad, NoMemory}
use Rattle.squall_cli_command.specs.declared.task.Task.{Task}
use Rattle.squall_cli_command.specs.Line.{squall_app, shows_help, plain_words, faults_in, job_of, job_seen, Asks}
use Rattle.squall_cli_command.proofs.OneSided.{IsOneSided}

pub squall_is_free : is_simple_and_free squall_app ≡ true
unfolding clap_on_literals
squall_is_free = refl

pub squall_is_simple : is_simple squall_app ≡ true
unfolding clap_on_literals
squall_is_simple = refl

either_is : (c d b : Bool) → c ≡ b → d ≡ b → (c || d) ≡ b
either_is true d b e f = e
either_is false d b e f = f

-- what holds of each kind holds of any
any_of_all : (p : ErrorKind → Bool) (b : Bool) (x : ErrorKind) (xs : Kinds) → ((j : ErrorKind) → IsAmong j (x ∷ xs) → p j ≡ b) → list_any p (x ∷ xs) ≡ b
any_of_all p b x [] h = either_last (p x) b (h x (inl refl))
  where
    either_last : (c d : Bool) → c ≡ d → (c || false) ≡ d
    either_last true d e = e
    either_last false d e = e
any_of_all p b x (y ∷ ys) h = either_is (p x) (list_any p (y ∷ ys)) b (h x (inl refl)) (any_of_all p b y ys (λ j among. h j (inr among)))

decides : (p : ErrorKind → Bool) (ks : Kinds) (k : ErrorKind) → ((i j : ErrorKind) → IsAmong i ks → IsAmong j ks → p i ≡ p j) → IsAmong k ks → list_any p ks ≡ p k
decides p [] k same among = absurd among
decides p (x ∷ xs) k same among = any_of_all p (p k) x xs (λ j a. same j k a among)

helps : (ks : Kinds) (k : ErrorKind) → IsOneSided ks → IsAmong k ks → list_any shows_help ks ≡ shows_help k
helps ks k side among = decides shows_help ks k side.same among

faults : (ks : Kinds) (k : ErrorKind) → IsOneSided ks → IsAmong k ks → list_any (λ x. not (shows_help x)) ks ≡ not (shows_help k)
faults ks k side among = decides (λ x. not (shows_help x)) ks k (λ i j a b. ap not (side.same i j a b)) among

-- the first kind decides which it is
first_decides : (b c d : Bool) → c ≡ b → d ≡ not b → IsTrue c ⊎ IsTrue d
first_decides true c d e f = inl e
first_decides false c d e f = inr f

pub help_or_bad : (ks : Kinds) → ks ≢ [] → IsOneSided ks → IsTrue (list_any shows_help ks) ⊎ IsTrue (list_any (λ x. not (shows_help x)) ks)
help_or_bad [] some side = absurd (some refl)
help_or_bad (x ∷ xs) some side = first_decides (shows_help x) (list_any shows_help (x ∷ xs)) (list_any (λ y. not (shows_help y)) (x ∷ xs))
    (helps (x ∷ xs) x side (inl refl)) (faults (x ∷ xs) x side (inl refl))

pub not_both : (ks : Kinds) → IsOneSided ks → IsTrue (list_any shows_help ks) → IsTrue (list_any (λ x. not (shows_help x)) ks) → ⊥
not_both [] side help bad = absurd cc
not_both (x ∷ xs) side help bad =
    let shows : shows_help x ≡ true = sym (helps (x ∷ xs) x side (inl refl)) ∙ help in
    let hides : not (shows_help x) ≡ true = sym (faults (x ∷ xs) x side (inl refl)) ∙ bad in
    let both : not true ≡ true = ap not (sym shows) ∙ hides in cc

-- an error of a kind among the faults is told as help exactly where help is among them
pub told_as_help : (ks : Kinds) (e : Error) (f : LineFault) → IsOneSided ks → HasKind ks e
    → ((f ≡ Help) ↔ IsTrue (shows_help (kind_of e))) → ((f ≡ NoMemory) ↔ (kind_of e ≡ kind.OutOfMemory))
    → (r : Result Task LineFault) → r ≡ Err f → r ≢ Err NoMemory → (r ≡ Err Help) ↔ IsTrue (list_any shows_help ks)
told_as_help ks e f side (inl memory) help none r is kept = absurd (kept (is ∙ ap (λ (x : LineFault). Err x) (none.1 memory)))
told_as_help ks e f side (inr among) help none r is kept =
    let all = helps ks (kind_of e) side among in
    ((λ h. let fault : f ≡ Help = cc in all ∙ help.0 fault), (λ h. is ∙ ap (λ (x : LineFault). Err x) (help.1 (sym all ∙ h))))

not_help : (b : Bool) → (b ≡ true → ⊥) → not b ≡ true
not_help true h = absurd (h refl)
not_help false h = refl

bad_left : (f : LineFault) (b : Bool) → ((f ≡ Help) ↔ IsTrue b) → f ≢ NoMemory → not b ≡ true → f ≡ Bad
bad_left Bad b help kept e = refl
bad_left NoMemory b help kept e = absurd (kept refl)
bad_left Help b help kept e = let bad = help.0 refl in let false_is : not true ≡ true = ap not (sym bad) ∙ e in absurd cc

pub told_as_bad : (ks : Kinds) (e : Error) (f : LineFault) → IsOneSided ks → HasKind ks e
    → ((f ≡ Help) ↔ IsTrue (shows_help (kind_of e))) → ((f ≡ NoMemory) ↔ (kind_of e ≡ kind.OutOfMemory))
    → (r : Result Task LineFault) → r ≡ Err f → r ≢ Err NoMemory → (r ≡ Err Bad) ↔ IsTrue (list_any (λ x. not (shows_help x)) ks)
told_as_bad ks e f side (inl memory) help none r is kept = absurd (kept (is ∙ ap (λ (x : LineFault). Err x) (none.1 memory)))
told_as_bad ks e f side (inr among) help none r is kept =
    let all = faults ks (kind_of e) side among in (
      (λ h. let fault : f ≡ Bad = cc in all ∙ not_help (shows_help (kind_of e)) (λ b. let g = help.1 b in absurd cc)),
      (λ h. is ∙ ap (λ (x : LineFault). Err x) (bad_left f (shows_help (kind_of e)) help (λ n. kept (is ∙ ap (λ (x : LineFault). Err x) n)) (sym all ∙ h))),
    )

-- where there is no fault, no kind is among them
pub none_told : (p : ErrorKind → Bool) (ks : Kinds) (t : Task) (f : LineFault) (r : Result Task LineFault) → r ≡ Ok t → ks ≡ [] → (r ≡ Err f) ↔ IsTrue (list_any p ks)
none_told p ks t f r is none = ((λ h. absurd cc), (λ h. let bad : false ≡ true = ap (list_any p) (sym none) ∙ h in absurd cc))

pub none_among : {Q : Type 0} (p : ErrorKind → Bool) (ks : Kinds) → ks ≡ [] → IsTrue (list_any p ks) → Q
none_among p ks none h = let bad : false ≡ true = ap (list_any p) (sym none) ∙ h in absurd cc

no_kind : (k : ErrorKind) (ks : Kinds) → IsAmong k ks → ks ≡ [] → ⊥
no_kind k ks among e = subst (IsAmong k) e among

-- what an error shows is shown for the faults that it is of
pub shown_help : {T : Type 0} (P : T → Type 0) (ks : Kinds) (e : Error) (r : Result T AllocError) → IsOneSided ks → HasKind ks e
    → IfOk r (λ _. kind_of e ≢ kind.OutOfMemory) → IfOk r (λ t. IsTrue (shows_help (kind_of e)) → P t) → IfOk r (λ t. IsTrue (list_any shows_help ks) → P t)
shown_help P ks e (Ok t) side (inl memory) known h = absurd (known memory)
shown_help P ks e (Ok t) side (inr among) known h = λ any. h (sym (helps ks (kind_of e) side among) ∙ any)
shown_help P ks e (Err x) side has known h = tt

pub shown_fault : {T : Type 0} (P : T → Type 0) (ks : Kinds) (e : Error) (r : Result T AllocError) → IsOneSided ks → HasKind ks e
    → IfOk r (λ _. kind_of e ≢ kind.OutOfMemory) → IfOk r (λ t. IsTrue (not (shows_help (kind_of e))) → P t) → IfOk r (λ t. IsTrue (list_any (λ x. not (shows_help x)) ks) → P t)
shown_fault P ks e (Ok t) side (inl memory) known h = absurd (known memory)
shown_fault P ks e (Ok t) side (inr among) known h = λ any. h (sym (faults ks (kind_of e) side among) ∙ any)
shown_fault P ks e (Err x) side has known h = tt

pub shown_none : {T : Type 0} (P : T → Type 0) (ks : Kinds) (e : Error) (r : Result T AllocError) → HasKind ks e
    → IfOk r (λ _. kind_of e ≢ kind.OutOfMemory) → IfOk r (λ t. ks ≡ [] → P t)
shown_none P ks e (Ok t) (inl memory) known = absurd (known memory)
shown_none P ks e (Ok t) (inr among) known = λ none. absurd (no_kind (kind_of e) ks among none)
shown_none P ks e (Err x) has known = tt

-- what a parse of the plain words gave, as facts of the words
pub with_kind : (a : App) (ws vs : List Text) (e : Error) → a ≡ squall_app → ws ≡ plain_words vs → HasKind (fault_of a ws) e → HasKind (faults_in vs) e
with_kind a ws vs e ia iw h = subst (λ (w : List Text). HasKind (fault_of squall_app w) e) iw (subst (λ (b : App). HasKind (fault_of b ws) e) ia h)

pub no_fault : (a : App) (ws vs : List Text) → a ≡ squall_app → ws ≡ plain_words vs → fault_of a ws ≡ [] → faults_in vs ≡ []
no_fault a ws vs ia iw h = subst (λ (w : List Text). fault_of squall_app w ≡ []) iw (subst (λ (b : App). fault_of b ws ≡ []) ia h)

pub asked : (a : App) (ws vs : List Text) (t : Task) (rows : Option (Text × List Row)) → a ≡ squall_app → ws ≡ plain_words vs → fault_of a ws ≡ []
    → rows ≡ subcommand_of a ws → job_seen t ≡ job_of rows → Asks vs (job_seen t)
asked a ws vs t rows ia iw none is job =
    (no_fault a ws vs ia iw none, ap job_of (sym (is ∙ ap (λ (b : App). subcommand_of b ws) ia ∙ ap (λ (w : List Text). subcommand_of squall_app w) iw)) ∙ sym job)
