-- What the numbers of an opening must fit, so that each message of a run is read back as it was
-- sent.
use Rattle.std.specs.Prelude.{◌≡◌, ℕ, ◌<◌, ◌≤◌, ◌^◌, All, List, length, Some, Ok, Err, true}
use Rattle.std.specs.List.{fold}
use Rattle.std.specs.FinMap as fin
use Rattle.cn_base.specs.Cidr.{Cidr}
use Rattle.cn_base.specs.declared.ids.Asn.{Asn}
use Rattle.cn_base.specs.declared.route.Attributes.{Attributes}
use Rattle.cn_base.specs.declared.route.Choice.{Choice}
use Rattle.cn_rib.specs.Updates.{AdjRib, apply_update}
use Rattle.cn_wire.specs.Reading.{update_of}
use Rattle.cn_wire.specs.Spelling.{FitFourOctets}
use Rattle.cn_wire.specs.Writing.{IsPrefix, IsUpdate, fits, spelling}
use Rattle.cn_wire.specs.declared.update.Update.{Update}
use Rattle.cn_net.specs.Network.{Network}
use Rattle.cn_net.specs.declared.device.Device.{Device}
use Rattle.cn_record.specs.Recorded.{RecordedOpening}
use Rattle.cn_record.specs.declared.saved.Row.{Row}
use Rattle.cn_core.specs.State.{CoreState, LocRib, RibState, SessionState}

-- ---- an opening

-- at most 255 numbers of four octets (RFC 4271, 4.3; RFC 6793, 3)
pub record FitsPath (path : List Asn) : Type 0 where
  pub numbers : FitFourOctets path
  pub short : length path ≤ 255

-- the AS number and the BGP Identifier have four octets, and what is originated are prefixes
pub record FitsDevice (d : Device) : Type 0 where
  pub asn : d.body.asn.0 < 2 ^ 32
  pub id : d.id.0 < 2 ^ 32
  pub own : All (λ o. IsPrefix o.prefix) d.body.own

abbrev pub FitsNet : Network → Type 0
FitsNet net = All FitsDevice net.devices

pub record FitsRow (x : Row) : Type 0 where
  pub prefix : IsPrefix x.prefix
  pub path : FitsPath x.choice.path

-- the numbers of the devices and of the records
pub record Fits (r : RecordedOpening) : Type 0 where
  pub net : FitsNet r.opening.net
  pub rows : All FitsRow r.rows

-- ---- a state

abbrev pub FitsRoutes : AdjRib → Type 0
FitsRoutes m = (p : Cidr) (w : Attributes) → fin.get m p ≡ Some w → IsPrefix p × FitsPath w.path

abbrev pub FitsChoices : LocRib → Type 0
FitsChoices m = (p : Cidr) (c : Choice) → fin.get m p ≡ Some c → IsPrefix p × FitsPath c.path

-- the octets are the spelling of an update
pub record IsSpelled (octets : List ℕ) : Type 0 where
  pub update : Update
  pub is : octets ≡ spelling update
  pub whole : IsUpdate update
  pub held : fits update ≡ true

pub record FitsSession (x : SessionState) : Type 0 where
  pub out : FitsRoutes x.adj_rib_out
  pub came : FitsRoutes x.adj_rib_in
  pub spelled : All IsSpelled x.mail

pub record FitsRib (x : RibState) : Type 0 where
  pub held : FitsChoices x.loc_rib

pub record FitsState (s : CoreState) : Type 0 where
  pub net : FitsNet s.now.net
  pub sessions : All FitsSession s.sessions
  pub ribs : All FitsRib s.ribs

-- ---- what is under way

-- the routes after the update that these octets spell
abbrev pub apply_octets : AdjRib → List ℕ → AdjRib
apply_octets routes octets =
    elim (update_of octets) [ Ok u ↦ apply_update routes u | Err fault ↦ routes ]

-- the same after one message after another
abbrev pub apply_mail : AdjRib → List (List ℕ) → AdjRib
apply_mail routes mail = fold apply_octets routes mail

-- in each session, the messages of the mailbox, applied in order to what came in, give what was
-- sent
abbrev pub MailBringsSent : CoreState → Type 0
MailBringsSent s = All (λ x. apply_mail x.adj_rib_in x.mail ≡ x.adj_rib_out) s.sessions
