-- What the records of a directory content say of disks, names and settings: look-ups by number.
use Rattle.std.specs.Prelude.{ℕ, List, ◌==◌, Option, Some, None}
use Rattle.asm_group.specs.Group.{Template}
use Rattle.asm_placement.specs.Tables.{first_said, if_is}
use Rattle.asm_formats.specs.Items.{Item, disk_item, rebalance_item, pending_item, templates_item, node_item, settings_item, DiskInfo, Pending, Node, Settings}

-- the record of disk d
unfoldable pub info_of : List Item → ℕ → Option DiskInfo
info_of items d = first_said says items
  where
    says : Item → Option DiskInfo
    says (disk_item e info) = if_is (e == d) info
    says _ = None

-- node n
unfoldable pub node_of : List Item → ℕ → Option Node
node_of items n = first_said says items
  where
    says : Item → Option Node
    says (node_item m node) = if_is (m == n) node
    says _ = None

unfoldable pub pending_of : List Item → Option Pending
pending_of items = first_said says items
  where
    says : Item → Option Pending
    says (pending_item op) = Some op
    says _ = None

-- the power of the active rebalance
unfoldable pub active_rebalance_power : List Item → Option ℕ
active_rebalance_power items = first_said says items
  where
    says : Item → Option ℕ
    says (rebalance_item power) = Some power
    says _ = None

unfoldable pub templates_of : List Item → Option (List Template)
templates_of items = first_said says items
  where
    says : Item → Option (List Template)
    says (templates_item ts) = Some ts
    says _ = None

unfoldable pub settings_of : List Item → Option Settings
settings_of items = first_said says items
  where
    says : Item → Option Settings
    says (settings_item s) = Some s
    says _ = None
