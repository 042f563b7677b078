-- The network that a struct holds. A reader of the promises may skip it.
-- Assumes nothing.
use Rattle.service.specs.Held.{service_in}
use Rattle.network.specs.Network.{Network}
use Rattle.search_layers.specs.Bridge.{network_of}
use Rattle.search_layers.specs.declared.contact_network.ContactNetwork.{ContactNetwork}

abbrev pub network_in : ContactNetwork → Network
network_in n = network_of (service_in n.service) n.ask.asked
