-- What follows where no check of a blocking call fails.
use Rattle.std.proofs.Common.{◌≡◌, ℕ, ◌+◌, ◌-◌, ◌*◌, ◌/◌, ◌%◌, ◌^◌, ◌<◌, ◌≤◌, Bool, true, false, not, eqb, ltb, leb, List, length, get_or, set, Some, None, MatchBool, Option, sym, refl, ap, ◌∙◌, subst, ⊎_elim, mul-le-mul_left, div-le_self, arith}
use Rattle.std.proofs.lemmas.Bool.{ltb-false, leb-false, eqb-true, not-false, eq-eqb, cases_eq, cases_lt}
use Rattle.std.proofs.lemmas.List.{get_or-set_same, get_or-set_other, set_past}
use Rattle.std.proofs.lemmas.Bool.Decides.{when_true}
use Rattle.bus.specs.Map.{AddressMap}
use Rattle.bus.specs.Payload.{Raw, Access, access_of, ill_made, first, judged_access, beats_served}
use Rattle.bus.specs.Serve.{ServedAs, Unserved, Serves}
use Rattle.bus.specs.Target.{if_okay}
use Rattle.bus.specs.declared.kinds.Command.TheVariants.{Read, Write, Ignore}
use Rattle.bus.specs.Answers.{Status, Okay, AddressError, CommandError, GenericError, Outcome}
use Rattle.bus.specs.declared.kinds.Refusal.{Refusal}
use Rattle.protocol.specs.Runs.{State, Answer, served}
use Rattle.protocol.specs.Rules.{start_of, or_else, blocking_refusal, Blocked, Unless}

passed : (b : Bool) (r : Refusal) (rest : Option Refusal) → first b r rest ≡ None → (b ≡ false) × (rest ≡ None)
passed true r rest e = let z : ◌≡◌ {A = ℕ} 0 1 = cc in absurd (omega arith)
passed false r rest e = (refl, e)

neither : (o rest : Option Refusal) → or_else o rest ≡ None → (o ≡ None) × (rest ≡ None)
neither None rest e = (refl, e)
neither (Some r) rest e = let z : ◌≡◌ {A = ℕ} 0 1 = cc in absurd (omega arith)

pub record Admitted (s : State) (port : ℕ) (f : Raw) (size : ℕ) : Type 0 where
  pub known : port < s.ports
  pub made : ill_made f ≡ None
  pub whole : size ≡ f.length
  pub early : start_of s port ≤ 2 ^ 40

pub admitted : (s : State) (port : ℕ) (f : Raw) (size : ℕ) → blocking_refusal s port f size ≡ None → Admitted s port f size
admitted s port f size none =
    let a = passed (leb s.ports port) _ _ none in
    let b = neither (ill_made f) _ a.1 in
    let c = passed (not (eqb size f.length)) _ _ b.1 in
    let d = passed (ltb (2 ^ 40) (start_of s port)) _ _ c.1 in
    record { known = leb-false s.ports port a.0; made = b.0; whole = eqb-true size f.length (not-false (eqb size f.length) c.0); early = ltb-false (2 ^ 40) (start_of s port) d.0 }

if_few : (s : Status) (n : ℕ) → n ≤ 64 → if_okay s n 0 ≤ 64
if_few Okay n le = le
if_few AddressError n le = omega arith
if_few CommandError n le = omega arith
if_few GenericError n le = omega arith

few_served : (p : Access) (m : AddressMap) → 1 ≤ p.length → p.length ≤ 64 → beats_served p m ≤ 64
few_served p m some most =
    let few : (p.length - 1) / p.width + 1 ≤ 64 = let a = div-le_self (p.length - 1) p.width in omega arith in
    let each : if_okay (judged_access m p) ((p.length - 1) / p.width + 1) 0 ≤ 64 = if_few (judged_access m p) ((p.length - 1) / p.width + 1) few in
    elim p.command as (λ c. elim c [ Read ↦ if_okay (judged_access m p) ((p.length - 1) / p.width + 1) 0 | Write ↦ if_okay (judged_access m p) ((p.length - 1) / p.width + 1) 0 | Ignore ↦ 0 ] ≤ 64)
    [ Read ↦ each | Write ↦ each | Ignore ↦ omega arith ]

-- A port's times stay within a limit.
pub set_within : (xs : List ℕ) (i v most : ℕ) → ((k : ℕ) → get_or xs k 0 ≤ most) → v ≤ most → (k : ℕ) → get_or (set xs i v) k 0 ≤ most
set_within xs i v most each le k =
    ⊎_elim (λ same. ⊎_elim (λ l. let e : get_or (set xs i v) k 0 ≡ v = ap (λ x. get_or (set xs i v) x 0) same ∙ get_or-set_same xs i v 0 l in omega arith)
    (λ past. let e : get_or (set xs i v) k 0 ≡ get_or xs k 0 = ap (λ x. get_or x k 0) (set_past xs i v past) in let h = each k in omega arith)
    (cases_lt i (length xs)))
    (λ other. let e : get_or (set xs i v) k 0 ≡ get_or xs k 0 = get_or-set_other xs i k v 0 other in let h = each k in omega arith)
    (cases_eq k i)

-- A payload that is served.
module _ (s : State) (port : ℕ) (p : Access) (buffer : List ℕ) (long : length buffer ≡ p.length) (r : Outcome) (after : List ℕ) (m' : AddressMap) (t' : ℕ) (serves : Serves s.map s.meter p buffer r after m' t') where
  served_as : ServedAs s.map s.meter p buffer r after m' t'
  served_as = when_true (ServedAs s.map s.meter p buffer r after m' t') (Unserved s.map s.meter buffer r after m' t') (eq-eqb (length buffer) p.length long) serves

  pub short_delay : 1 ≤ p.length → p.length ≤ 64 → r.delay ≤ 64000000
  short_delay some most =
      let few = few_served p s.map some most in
      let a : 1000000 * beats_served p s.map ≤ 1000000 * 64 = mul-le-mul_left 1000000 few in
      omega (arith, a, served_as.only_the_delay_is_free)

  pub blocked : (local : ℕ) → local ≡ start_of s port + r.delay → (status : Status) → status ≡ r.status → (s' : State) → s' ≡ record { ports = s.ports; accept = s.accept; quantum = s.quantum; now = s.now; locals = set s.locals port local; map = m'; meter = t' } → Blocked s port p buffer (served local status after) s'
  blocked local sum status is s' new =
      let meter : s'.meter ≡ t' = ap (λ x. x.meter) new in
      record {
        delay = r.delay;
        answer = (λ u. served (sum u) ((is ∙ served_as.status) u) (served_as.bytes u));
        after = new ∙ (λ u. record { ports = s.ports; accept = s.accept; quantum = s.quantum; now = s.now; locals = set s.locals port (sum u); map = served_as.map_after u; meter = sym meter u });
        meter_grows_by_the_delay = subst (λ x. MatchBool (eqb (beats_served p s.map) 0) (x ≡ s.meter) (x ≡ (s.meter + r.delay) % 2 ^ 64)) (sym meter) served_as.meter_grows_by_the_delay;
        only_the_delay_is_free = served_as.only_the_delay_is_free;
      }

-- A call that no check refuses is accepted.
pub accepted : (s : State) (port : ℕ) (f : Raw) (buffer : List ℕ) → blocking_refusal s port f (length buffer) ≡ None → (p : Access) → p ≡ access_of f → (a : Answer) (s' : State) → Blocked s port p buffer a s' → Unless (blocking_refusal s port f (length buffer)) s a s' (Blocked s port (access_of f) buffer a s')
accepted s port f buffer none p is a s' done = subst (λ o. Unless o s a s' (Blocked s port (access_of f) buffer a s')) (sym none) (subst (λ x. Blocked s port x buffer a s') is done)
