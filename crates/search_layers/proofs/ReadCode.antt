-- What is known of a contact that was read.
--     Read, read_by     contact c of the plan is x, and x is good
--     read_from, read_to      the network's nodes of a contact that was read
-- Assumes nothing.
use mathlib.Core.Path.{◌≡◌, sym, ap}
use Prim.Native.Nat.{ℕ, ◌-◌}
use Rattle.units.specs.declared.Ask.{Ask}
use Rattle.plan.specs.declared.rows.Contact.{Contact}
use Rattle.plan.specs.Plan.{GoodContact}
use Rattle.service.specs.Service.{Service, contact_of}
use Rattle.search_layers.specs.Bridge.{network_of}

pub record Read (p : Service) (c : ℕ) (x : Contact) : Type 0 where
  pub is : x ≡ contact_of p c
  pub good : GoodContact x

pub read_by : (p : Service) (c : ℕ) (x : Contact) → x ≡ contact_of p c → GoodContact x → Read p c x
read_by p c x is good = record { is = is; good = good }

module _ (p : Service) (ask : Ask) (c : ℕ) (x : Contact) (read : Read p c x) where
  pub read_from : (network_of p ask).from c ≡ x.from.0 - 1
  unfolding network_of
  read_from = sym (ap (λ (y : Contact). y.from.0 - 1) read.is)

  pub read_to : (network_of p ask).to c ≡ x.to.0 - 1
  unfolding network_of
  read_to = sym (ap (λ (y : Contact). y.to.0 - 1) read.is)
