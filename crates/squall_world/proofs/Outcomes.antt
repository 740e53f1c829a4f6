-- What comes of a call that answers or fails, from what comes of each answer.
use Rattle.std.proofs.Common.{◌≡◌, ◌↔◌, ◌<◌, ◌≤◌, ℕ, Result, Ok, Err, IfOk, OnErr, sym, subst, ◌∙◌, arith}
use Rattle.std.specs.declared.alloc.AllocError.{AllocError}
use Rattle.squall_protocol.specs.declared.event.Event.{Event}
use Rattle.squall_protocol.specs.declared.answer.Answer.{Answer}
use Rattle.squall_protocol.specs.Worlds.{most_routers}
use Rattle.squall_protocol.specs.Steps.{Step}
use Rattle.squall_protocol.specs.WorldLaws.{reached_step}
use Rattle.squall_world.specs.declared.steps.WorldFault.TheVariants.{NoMemory, TooManyRouters}
use Rattle.squall_world.specs.Nets.{NetValue, IsNet}
use Rattle.squall_world.specs.Views.{view}
use Rattle.squall_world.specs.Runs.{IsWorld}

-- where each answer keeps what always holds and comes of a step, and a failure changes nothing, it stays what a world keeps
pub keeps_either : (R : Result Answer AllocError → Type 0) (event : Event) (n m : NetValue) (r : Result Answer AllocError) → IsWorld n
    → ((answer : Answer) → R (Ok answer) → IsNet m) → ((answer : Answer) → R (Ok answer) → Step (view n) event answer (view m)) → ((e : AllocError) → R (Err e) → m ≡ n) → R r → IsWorld m
keeps_either R event n m (Ok answer) world keeps steps same h = record { net = keeps answer h; reached = reached_step (view n) (view m) event answer world.reached (steps answer h) }
keeps_either R event n m (Err e) world keeps steps same h = subst IsWorld (sym (same e h)) world

-- where each answer comes of a step, what is answered does
pub steps_if : (R : Result Answer AllocError → Type 0) (S : Answer → Type 0) (r : Result Answer AllocError) → ((answer : Answer) → R (Ok answer) → S answer) → R r → IfOk r S
steps_if R S (Ok answer) steps h = steps answer h
steps_if R S (Err e) steps h = tt

-- where a failure changes nothing, nothing changed where the call failed
pub same_if : (R : Result Answer AllocError → Type 0) (n m k : NetValue) (r : Result Answer AllocError) → n ≡ k → ((e : AllocError) → R (Err e) → m ≡ n) → R r → OnErr r (m ≡ k)
same_if R n m k (Ok answer) is same h = tt
same_if R n m k (Err e) is same h = same e h ∙ is

-- within its limit a world is refused for want of memory alone
pub no_memory_is : (routers : ℕ) → routers ≤ most_routers → (NoMemory ≡ TooManyRouters) ↔ (most_routers < routers)
no_memory_is routers few = (λ e. absurd (let bad : ⊥ = cc in bad), λ h. absurd (omega (arith, few, h)))

-- what holds holds where the call failed
pub on_either : {A E : Type 0} (P : Type 0) (r : Result A E) → P → OnErr r P
on_either P (Ok a) p = tt
on_either P (Err e) p = p
