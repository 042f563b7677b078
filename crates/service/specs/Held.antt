-- The service that a served plan holds. A reader of the promises may skip it.
-- Assumes nothing.
use Rattle.service.specs.declared.tables.ServedPlan.{ServedPlan}
use Rattle.service.specs.Service.{Service}
use Rattle.service.specs.Tables.{served}

unfoldable pub service_in : ServedPlan → Service
service_in s = served s.contacts.now s.contact_count s.lights.now s.lefts.now
