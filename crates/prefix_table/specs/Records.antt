-- Records of the code.
--     node_record r      a record of the code as one of the model
use Rattle.prefix_model.specs.Positions.{NodeRecord}
use Rattle.prefix_table.specs.declared.node_records.Record.{Record}

abbrev pub node_record : Record → NodeRecord
node_record r = record { data_bits = r.data_bits; child_bits = r.child_bits; data_index = r.data_index; child_index = r.child_index }
