-- What is lawful for one strand stays so while others go on.
use Rattle.std.proofs.Common.{◌≡◌, ◌≢◌, ◌∙◌, ℕ, ◌<◌, ◌≤◌, Option, Some, None, refl, arith}
use Rattle.std.specs.Prelude.{IfSome}
use Rattle.schedule.specs.declared.events.Event.{Event}
use Rattle.schedule.specs.declared.events.Event.TheVariants.{Enter, Leave}
use Rattle.schedule.specs.Nets.{Net, needs, writes, count_in}
use Rattle.schedule.specs.States.{State, after, MayEnter, MayLeave}
use Rattle.schedule.specs.Rules.{StaysLawful, strand_of}
use Rattle.schedule.proofs.Sound.{raise-other, raise-more}

if-still : {X : Type 0} (o : Option X) (P Q : X → Type 0) → ((b : X) → P b → Q b) → IfSome o P → IfSome o Q
if-still None P Q h p = p
if-still (Some b) P Q h p = h b p

-- the counts of a strand itself stay, and those of its neighbours only rise
record AreKept (a b : State) (x : ℕ) : Type 0 where
  entered : b.entered x ≡ a.entered x
  left : b.left x ≡ a.left x
  passed : (j : ℕ) → b.passed x j ≡ a.passed x j
  published_more : (y : ℕ) → a.published y ≤ b.published y
  passed_more : (y j : ℕ) → a.passed y j ≤ b.passed y j

still_enters : (net : Net) (a b : State) (x m : ℕ) → AreKept a b x → MayEnter net a x m → MayEnter net b x m
still_enters net a b x m k p = record {
  region = p.region;
  entered = k.entered ∙ p.entered;
  left = k.left ∙ p.left;
  blocks = if-still (needs net x m) _ _ (λ c h j l. let u = h j l in let w : c < a.published (net.side x j) = u.0 in let v : a.passed x j ≤ c = u.1 in let q = k.published_more (net.side x j) in let r = k.passed j in (omega arith, omega arith)) p.blocks;
  room = if-still (writes net m) _ _ (λ c h j l. let u = h j l in let q = k.passed_more (net.side x j) (net.back x j) in omega arith) p.room;
}

still_leaves : (net : Net) (a b : State) (x m : ℕ) → AreKept a b x → MayLeave net a x m → MayLeave net b x m
still_leaves net a b x m k p = record { region = p.region; entered = k.entered ∙ p.entered; left = k.left ∙ p.left }

kept_by : (net : Net) (state : State) (x : ℕ) (other : Event) → x ≢ strand_of other → AreKept state (after net state other) x
kept_by net state x (Enter y k) h = record {
  entered = raise-other state.entered y 1 x h;
  left = refl;
  passed = λ j. refl;
  published_more = λ z. omega arith;
  passed_more = λ z j. omega arith;
}
kept_by net state x (Leave y k) h = record {
  entered = refl;
  left = raise-other state.left y 1 x h;
  passed = λ j. raise-other (λ z. state.passed z j) y (count_in (needs net y k)) x h;
  published_more = raise-more state.published y (count_in (writes net k));
  passed_more = λ z j. raise-more (λ v. state.passed v j) y (count_in (needs net y k)) z;
}

pub stays_lawful : StaysLawful
stays_lawful net state (Enter x m) other h p = still_enters net state (after net state other) x m (kept_by net state x other h) p
stays_lawful net state (Leave x m) other h p = still_leaves net state (after net state other) x m (kept_by net state x other h) p
